-- What a reader of payloads answers.
use Rattle.std.proofs.Common.{◌≡◌, ℕ, List, [], ◌∷◌, ◌++◌, length, refl, sym, subst, Ok, Err, Option, Some, None}
use Rattle.torn_journal.specs.declared.visit.VisitFault.{VisitFault}
use Rattle.torn_journal.specs.declared.visit.VisitFault.TheVariants.{Bad}
use Rattle.torn_journal.specs.Visits.{Takes}
use Rattle.journaled_list.specs.Rules.{Rules, Listed, AreReadOnce}
use Rattle.journaled_list.specs.Payloads.{with_group, StandFor, MayCome}
use Rattle.journaled_list.specs.Reading.{IsLoaded, AddsGroup, OpensWith}
use Rattle.journaled_list.proofs.ListsOfPayloads.{stand-push, next_group, first_opening}

module _ {L O E : Type 0} (rules : Rules O E) (list_of : L → Listed O E) where
  pub taken_group : (v : Option L) (s next : L) (last n : ℕ) (payload : List ℕ) → v ≡ Some s → AddsGroup rules (Ok n) (list_of s) (list_of next) payload
      → Takes (Ok tt) (MayCome rules) (IsLoaded rules list_of v last) (IsLoaded rules list_of (Some next) n) payload
  taken_group v s next last n payload is adds = record {
    ok = λ payloads stood.
        let stand : StandFor rules payloads (list_of s) last = subst (λ (x : Option L). IsLoaded rules list_of x last payloads) is stood in
        let grown : StandFor rules (payloads ++ payload ∷ []) (with_group (list_of s) adds.0) (length adds.0) = stand-push rules payloads (list_of s) last adds.0 payload stand adds.1 in
        let counted : StandFor rules (payloads ++ payload ∷ []) (with_group (list_of s) adds.0) n = subst (λ k. StandFor rules (payloads ++ payload ∷ []) (with_group (list_of s) adds.0) k) (sym adds.2) grown in
        (record { list = with_group (list_of s) adds.0; last = n; stand = counted }, subst (λ (x : Listed O E). StandFor rules (payloads ++ payload ∷ []) x n) (sym adds.3) counted);
    bad = λ e. absurd cc;
  }

  pub refused_group : AreReadOnce rules → (v : Option L) (s : L) (after : Listed O E) (last : ℕ) (new : List (List ℕ) → Type 0) (payload : List ℕ) (fault : VisitFault) → fault ≡ Bad → v ≡ Some s
      → AddsGroup rules (Err fault) (list_of s) after payload → Takes (Err Bad) (MayCome rules) (IsLoaded rules list_of v last) new payload
  refused_group once v s after last new payload fault bad is adds = record {
    ok = tt;
    bad = λ e payloads stood come.
        let stand : StandFor rules payloads (list_of s) last = subst (λ (x : Option L). IsLoaded rules list_of x last payloads) is stood in
        let found = next_group rules once payloads (list_of s) last payload stand come in
        let refused : AddsGroup rules (Err Bad) (list_of s) after payload = subst (λ (f : VisitFault). AddsGroup rules (Err f) (list_of s) after payload) bad adds in
        refused found.0 found.1;
  }

  pub taken_first : (v : Option L) (s : L) (last : ℕ) (payload : List ℕ) → v ≡ None → OpensWith rules list_of (Ok s) payload
      → Takes (Ok tt) (MayCome rules) (IsLoaded rules list_of v last) (IsLoaded rules list_of (Some s) 0) payload
  taken_first v s last payload is opens = record {
    ok = λ payloads stood.
        let none : payloads ≡ [] = subst (λ (x : Option L). IsLoaded rules list_of x last payloads) is stood in
        let first : StandFor rules (payload ∷ []) (list_of s) 0 = (opens.0, opens.1, (opens.2, refl)) in
        let stand : StandFor rules (payloads ++ payload ∷ []) (list_of s) 0 = subst (λ (l : List (List ℕ)). StandFor rules (l ++ payload ∷ []) (list_of s) 0) (sym none) first in
        (record { list = list_of s; last = 0; stand = stand }, stand);
    bad = λ e. absurd cc;
  }

  pub refused_first : (v : Option L) (last : ℕ) (new : List (List ℕ) → Type 0) (payload : List ℕ) (fault : VisitFault) → fault ≡ Bad → v ≡ None → OpensWith rules list_of (Err fault) payload
      → Takes (Err Bad) (MayCome rules) (IsLoaded rules list_of v last) new payload
  refused_first v last new payload fault bad is refused = record {
    ok = tt;
    bad = λ e payloads stood come.
        let none : payloads ≡ [] = subst (λ (x : Option L). IsLoaded rules list_of x last payloads) is stood in
        let first = first_opening rules payload (subst (λ (l : List (List ℕ)). MayCome rules l payload) none come) in
        let refuses : OpensWith rules list_of (Err Bad) payload = subst (λ (f : VisitFault). OpensWith rules list_of (Err f) payload) bad refused in
        refuses first.0 first.1 first.2;
  }
