-- Frames that were sent, found by their numbers; and what the text of a draft and a member of a longer list are.
use Rattle.std.proofs.Common.{◌≡◌, ⊎_elim, refl, sym, subst, ◌∙◌, ℕ, zero, suc, Bool, true, false, ◌||◌, List, [], ◌∷◌, Option, Some, None}
use Rattle.std.specs.Prelude.{bytes_eq, slice_get}
use Rattle.std.specs.List.{AllByRecursion, Contains}
use Rattle.std.proofs.lemmas.List.Elements.{Contains-append_left}
use Rattle.faim_base.specs.Ranges.{IsEndpoint}
use Rattle.link_frames.specs.Frames.{Content as Frame}
use Rattle.host_ledger.specs.declared.config.Account.{Account}
use Rattle.host_ledger.specs.Accounts.{has_endpoint}
use Rattle.host_ledger.specs.Soundness.{IsAccount}
use Rattle.bank_books.specs.declared.entries.BankEntry.{BankEntry}
use Rattle.bank_books.specs.declared.entries.BankEntry.TheVariants.{Drafted, Answered, Received}
use Rattle.bank_books.specs.Drafts.{Draft, drafts}
use Rattle.faim_model.proofs.Imads.{bytes_equal, bytes_pass}
use Rattle.faim_model.proofs.Members.{first_in, first_or_later, later_in, none_in}
use Rattle.bank_turns.specs.BankSteps.{adds_to}
use Rattle.world_events.specs.Allowed.{is_declared}
use Rattle.world_model.specs.Effects.{numbered}

got_is_in : {A : Type 0} (xs : List A) (k : ℕ) (x : A) → slice_get xs k ≡ Some x → Contains xs x
got_is_in [] k x got = absurd cc
got_is_in {A} (y ∷ xs) zero x got = let same : y ≡ x = cc in subst (λ (z : A). Contains (y ∷ xs) z) same (first_in y xs)
got_is_in (y ∷ xs) (suc k) x got = later_in y x xs (got_is_in xs k x got)

-- a frame that has a number was sent
pub numbered_was_sent : (frames : List Frame) (number : ℕ) (f : Frame) → numbered frames number ≡ Some f → Contains frames f
numbered_was_sent frames zero f is = absurd cc
numbered_was_sent frames (suc place) f is = got_is_in frames place f is

-- a bank that adds an entry or none still has its drafts
pub drafts_stay : (adds : Option BankEntry) (es : List BankEntry) (d : Draft) → Contains (drafts es) d → Contains (drafts (adds_to adds es)) d
drafts_stay None es d there = there
drafts_stay (Some (Drafted imad text)) es d there = Contains-append_left (drafts es) _ d there
drafts_stay (Some (Answered imad verdict)) es d there = there
drafts_stay (Some (Received at text next)) es d there = there

-- an endpoint of accounts is one
pub account_endpoint : (accounts : List Account) (e : List ℕ) → AllByRecursion IsAccount accounts → has_endpoint accounts e ≡ true → IsEndpoint e
account_endpoint [] e each served = absurd (let wrong : false ≡ true = served in cc)
account_endpoint (a ∷ rest) e each served = here (bytes_eq a.endpoint e) refl (account_endpoint rest e each.1) served
  where
    here : (b : Bool) → bytes_eq a.endpoint e ≡ b → (has_endpoint rest e ≡ true → IsEndpoint e) → b || has_endpoint rest e ≡ true → IsEndpoint e
    here true same later served = subst IsEndpoint (bytes_equal a.endpoint e same) each.0.endpoint
    here false same later served = later served

-- an endpoint is one of the banks where it is declared, and none of them where it isn't
pub declared_in : (banks : List (List ℕ)) (e : List ℕ) → is_declared banks e ≡ true → Contains banks e
declared_in [] e is = absurd (let wrong : false ≡ true = is in cc)
declared_in (b ∷ rest) e is = here (bytes_eq e b) refl (declared_in rest e) is
  where
    here : (same : Bool) → bytes_eq e b ≡ same → (is_declared rest e ≡ true → Contains rest e) → same || is_declared rest e ≡ true → Contains (b ∷ rest) e
    here true own later declared = subst (λ (x : List ℕ). Contains (b ∷ rest) x) (sym (bytes_equal e b own)) (first_in b rest)
    here false own later declared = later_in b e rest (later declared)

pub undeclared : (banks : List (List ℕ)) (e : List ℕ) → is_declared banks e ≡ false → Contains banks e → ⊥
undeclared [] e is there = none_in e there
undeclared (b ∷ rest) e is there = here (bytes_eq e b) refl (undeclared rest e) is
  where
    here : (same : Bool) → bytes_eq e b ≡ same → (is_declared rest e ≡ false → Contains rest e → ⊥) → same || is_declared rest e ≡ false → ⊥
    here true own later declared = let wrong : true ≡ false = declared in absurd cc
    here false own later declared =
        ⊎_elim (λ (first : e ≡ b). let wrong : true ≡ false = sym (bytes_pass e b first) ∙ own in absurd cc) (λ (more : Contains rest e). later declared more) (first_or_later b e rest there)

-- what holds of each of a list's members holds of this one
pub each_in : {A : Type 0} (P : A → Type 0) (xs : List A) → AllByRecursion P xs → (x : A) → Contains xs x → P x
each_in P [] each x there = absurd (none_in x there)
each_in {A} P (y ∷ rest) each x there =
    ⊎_elim (λ (first : x ≡ y). subst P (sym first) each.0) (λ (more : Contains rest x). each_in P rest each.1 x more) (first_or_later y x rest there)
