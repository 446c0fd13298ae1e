-- A bank's step leaves a safe world, however it lands.
use Rattle.std.proofs.Common.{◌≡◌, ◌⊎◌, ⊎_elim, inl, inr, refl, sym, subst, ℕ, Bool, true, false, List, ◌++◌, take, Option, Some, None, IsSome}
use Rattle.std.specs.Prelude.{bytes_eq, if◌then◌else◌}
use Rattle.std.specs.List.{Contains}
use Rattle.std.proofs.lemmas.List.Elements.{Contains-append_cases}
use Rattle.faim_base.specs.declared.ids.Imad.{Imad}
use Rattle.faim_base.specs.declared.ids.OutPos.{OutPos}
use Rattle.link_frames.specs.Frames.{Content as Frame}
use Rattle.bank_books.specs.declared.entries.BankEntry.{BankEntry}
use Rattle.bank_books.specs.declared.entries.BankOpening.{BankOpening}
use Rattle.bank_books.specs.Openings.{IsBankOpening}
use Rattle.faim_model.specs.Requests.{IsRetrieve}
use Rattle.faim_model.proofs.Drawn.{from_take}
use Rattle.faim_model.proofs.Imads.{bytes_equal, bytes_pass}
use Rattle.faim_model.proofs.Members.{none_in}
use Rattle.bank_turns.specs.BankSteps.{BankStep, adds_to, bank_step}
use Rattle.bank_turns.specs.KeptTexts.{KeptBank}
use Rattle.bank_turns.proofs.KeptSteps.{kept_lawful, step_kept}
use Rattle.bank_accord.specs.Accord.{Accords, IsHost, IsTrusted}
use Rattle.bank_accord.proofs.Accorded.{step_accords}
use Rattle.world_model.specs.Worlds.{HasBank, World, books_with, opening_at}
use Rattle.world_model.specs.Ways.{BankInOrder, bank_lands}
use Rattle.world_model.specs.Safety.{IsDraftOf, IsFromBank, IsSubmission, Safe}
use Rattle.world_model.proofs.BankFrames.{step_sends_own}
use Rattle.world_model.proofs.HostLands.{accord_of}
use Rattle.world_model.proofs.Members.{account_endpoint, drafts_stay}

submission_stays : (adds : Option BankEntry) (es : List BankEntry) (f : Frame) → IsSubmission es f → IsSubmission (adds_to adds es) f
submission_stays adds es f is =
    record { draft = is.draft; there = drafts_stay adds es is.draft is.there; mark = is.mark; marked = is.marked; sent = is.sent }

draft_stays : (adds : Option BankEntry) (es : List BankEntry) (imad : Imad) (text : List ℕ) → IsDraftOf es imad text → IsDraftOf (adds_to adds es) imad text
draft_stays adds es imad text is = record { draft = is.draft; there = drafts_stay adds es is.draft is.there; named = is.named; is = is.is }

module _ (w : World) (e : List ℕ) (f : Frame) (s : Safe w) (bank : HasBank w e) (trusted : IsTrusted w.config w.entries f) where
  abbrev own : BankOpening
  own = opening_at w.config e

  abbrev step : BankStep
  step = bank_step own (w.books e) f

  opening_is : IsBankOpening own
  opening_is = record {
    endpoint = account_endpoint w.config.accounts e s.values.config.accounts.each (s.values.served e bank);
    env = s.values.config.env;
    date = s.values.config.date;
  }

  host_is : IsHost w.config w.entries own
  host_is = record { sound = s.values.config; lawful = s.lawful; date = refl }

  module _ (kept : Bool) where
    abbrev adds : Option BankEntry
    adds = if kept then step.adds else None

    abbrev books : List ℕ → List BankEntry
    books = books_with e (adds_to adds (w.books e)) w.books

    -- what holds of the bank's list with the entry, and of each other list as it was, holds of each list
    each_list : (P : List ℕ → List BankEntry → Type 0) → P e (adds_to adds (w.books e)) → (other : List ℕ) → P other (w.books other) → P other (books other)
    each_list P changed other before = by_test (bytes_eq other e) refl
      where
        by_test : (b : Bool) → bytes_eq other e ≡ b → P other (if b then adds_to adds (w.books e) else w.books other)
        by_test true same = subst (λ (x : List ℕ). P x (adds_to adds (w.books e))) (sym (bytes_equal other e same)) changed
        by_test false apart = before

    -- and what goes from each list to that with an entry more
    grown_list : (P : List BankEntry → Type 0) → ((es : List BankEntry) → P es → P (adds_to adds es)) → (other : List ℕ) → P (w.books other) → P (books other)
    grown_list P grows other before = by_test (bytes_eq other e) refl
      where
        by_test : (b : Bool) → bytes_eq other e ≡ b → P (if b then adds_to adds (w.books e) else w.books other)
        by_test true same = subst (λ (x : List ℕ). P (adds_to adds (w.books x))) (bytes_equal other e same) (grows (w.books other) before)
        by_test false apart = before

    kept_with : (b : Bool) → KeptBank own (adds_to (if b then step.adds else None) (w.books e))
    kept_with true = step_kept own (w.books e) f opening_is (s.banks e bank)
    kept_with false = s.banks e bank

    accords_with : (b : Bool) → Accords w.config w.entries own (adds_to (if b then step.adds else None) (w.books e))
    accords_with true = step_accords w.config w.entries own host_is (w.books e) f (s.banks e bank) trusted (accord_of w e s bank)
    accords_with false = accord_of w e s bank

    -- the frames of the step that are out
    out_own : (n : ℕ) → BankInOrder step kept n → (g : Frame) → Contains (take n step.sends) g
        → (g.endpoint ≡ e) × (IsSubmission (adds_to adds (w.books e)) g ⊎ ((at : OutPos) × IsRetrieve g at))
    out_own n in_order g there = by_kept kept step.adds refl (λ some unkept. in_order.unkept some unkept)
      where
        all_own : (g.endpoint ≡ e) × (IsSubmission (adds_to step.adds (w.books e)) g ⊎ ((at : OutPos) × IsRetrieve g at))
        all_own =
            step_sends_own own (w.books e) s.values.config.date (kept_lawful own (w.books e) (s.banks e bank)) f g (from_take n step.sends g there)

        by_kept : (b : Bool) (some : Option BankEntry) → step.adds ≡ some → (IsSome some → b ≡ false → n ≡ 0)
            → (g.endpoint ≡ e) × (IsSubmission (adds_to (if b then step.adds else None) (w.books e)) g ⊎ ((at : OutPos) × IsRetrieve g at))
        by_kept true some is unkept = all_own
        by_kept false None is unkept =
            subst (λ (x : Option BankEntry). (g.endpoint ≡ e) × (IsSubmission (adds_to x (w.books e)) g ⊎ ((at : OutPos) × IsRetrieve g at))) is all_own
        by_kept false (Some x) is unkept = absurd (none_in g (subst (λ (k : ℕ). Contains (take k step.sends) g) (unkept refl refl) there))

    -- a frame of this bank with its new list
    own_from_bank : (to_host : List Frame) (g : Frame) → g.endpoint ≡ e → IsSubmission (adds_to adds (w.books e)) g ⊎ ((at : OutPos) × IsRetrieve g at)
        → IsFromBank (record w { books = books; to_host = to_host }) g
    own_from_bank to_host g line is = record {
      bank = subst (HasBank w) (sym line) bank;
      is = subst (λ (x : List ℕ). IsSubmission (books x) g ⊎ ((at : OutPos) × IsRetrieve g at)) (sym line) (at_own (bytes_eq e e) (bytes_pass e e refl));
    }
      where
        at_own : (b : Bool) → b ≡ true → IsSubmission (if b then adds_to adds (w.books e) else w.books e) g ⊎ ((at : OutPos) × IsRetrieve g at)
        at_own true same = is
        at_own false same = absurd cc

    before_from_bank : (to_host : List Frame) (g : Frame) → IsFromBank w g → IsFromBank (record w { books = books; to_host = to_host }) g
    before_from_bank to_host g from = record {
      bank = from.bank;
      is = grown_list (λ es. IsSubmission es g ⊎ ((at : OutPos) × IsRetrieve g at))
          (λ es before. ⊎_elim (λ (is : IsSubmission es g). inl (submission_stays adds es g is)) (λ (asks : (at : OutPos) × IsRetrieve g at). inr asks) before)
          g.endpoint from.is;
    }

    pub bank_lands_safe : (n : ℕ) → BankInOrder step kept n → Safe (bank_lands w e step kept n)
    bank_lands_safe n in_order = record {
      values = record { config = s.values.config; distinct = s.values.distinct; served = s.values.served; clock = s.values.clock; newest = s.values.newest };
      lawful = s.lawful;
      recent = s.recent;
      covered = s.covered;
      banks = λ other has. each_list (λ x es. KeptBank (opening_at w.config x) es) (kept_with kept) other (s.banks other has);
      submits = λ g there.
          ⊎_elim (λ (old : Contains w.to_host g). before_from_bank (w.to_host ++ take n step.sends) g (s.submits g old))
          (λ (new : Contains (take n step.sends) g). let is = out_own n in_order g new in own_from_bank (w.to_host ++ take n step.sends) g is.0 is.1)
          (Contains-append_cases w.to_host (take n step.sends) g there);
      bodies = λ h body resent moment v there has.
          grown_list (λ es. IsDraftOf es h.imad body) (λ es before. draft_stays adds es h.imad body before) h.imad.source (s.bodies h body resent moment v there has);
      verdicts = λ other has. (each_list (λ x es. Accords w.config w.entries (opening_at w.config x) es) (accords_with kept) other (accord_of w other s has)).verdicts;
      inboxes = λ other has. (each_list (λ x es. Accords w.config w.entries (opening_at w.config x) es) (accords_with kept) other (accord_of w other s has)).inbox;
    }
