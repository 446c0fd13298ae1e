-- A decoder before and after its stop.
use Rattle.std.proofs.Common.{◌≡◌, ℕ, List, ◌++◌, Option, Some, None, sym, subst}
use Rattle.std.specs.Prelude.{MatchOption}
use Rattle.faim_message.specs.Refusal.{StopsAt}
use Rattle.faim_message.proofs.Reasons.{stop_stays}
use Rattle.faim_stream.specs.Fed.{Held, IsFed}

abbrev fed_at : Held → List ℕ → Option ℕ → Type 0
fed_at d fed o = MatchOption o (d.bytes ≡ fed) (λ p. StopsAt d.form fed p)

-- after its stop it knows where the bytes stop
pub stopped : (d : Held) (p : ℕ) (fed : List ℕ) → d.stop ≡ Some p → IsFed d fed → StopsAt d.form fed p
stopped d p fed is h = let P : Option ℕ → Type 0 = λ o. fed_at d fed o in subst P is h

-- before its stop it keeps all of them
pub going : (d : Held) (fed : List ℕ) → d.stop ≡ None → IsFed d fed → d.bytes ≡ fed
going d fed is h = let P : Option ℕ → Type 0 = λ o. fed_at d fed o in subst P is h

-- its stop is that of more bytes too
pub stopped_more : (d : Held) (p : ℕ) (fed more : List ℕ) → d.stop ≡ Some p → IsFed d fed → StopsAt d.form (fed ++ more) p
stopped_more d p fed more is h = stop_stays d.form fed more p (stopped d p fed is h)

pub still_fed : (d : Held) (p : ℕ) (fed more : List ℕ) → d.stop ≡ Some p → IsFed d fed → IsFed d (fed ++ more)
still_fed d p fed more is h = let P : Option ℕ → Type 0 = λ o. fed_at d (fed ++ more) o in subst P (sym is) (stopped_more d p fed more is h)
