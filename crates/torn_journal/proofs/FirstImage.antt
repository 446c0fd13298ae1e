-- What the calls that make a journal leave.
use Rattle.std.proofs.Common.{◌≡◌, inr, ℕ, ◌+◌, ◌<◌, List, [], ◌∷◌, ◌++◌, length, refl, sym, ◌∙◌, ap, subst, true, false, Ok, Err, Result, arith, length-append}
use Rattle.std.proofs.lemmas.List.{append-nil, drop_all}
use Rattle.std.proofs.lemmas.List.Elements.{All-nil, All-push}
use Rattle.std.specs.Int.{to_be_bytes, w32}
use Rattle.std.specs.Prelude.{IsErrAnd}
use Rattle.faim_base.specs.declared.faults.Failed.{Failed}
use Rattle.site_core.specs.Image.{put}
use Rattle.site_core.specs.Log.{Act, reads, sent, NothingPending}
use Rattle.site_core.specs.Log.Act.{Asked, Wrote, Synced}
use Rattle.site_core.specs.Told.{Told, Ran, Asks}
use Rattle.site_core.proofs.Moments.{synced}
use Rattle.site_core.proofs.Runs.{ran_on}
use Rattle.torn_journal.specs.declared.faults.CreateFault.{CreateFault}
use Rattle.torn_journal.specs.declared.faults.CreateFault.TheVariants.{SiteFault}
use Rattle.torn_journal.specs.Append.{secured, IsBrokenOff, Secures}
use Rattle.torn_journal.specs.Create.{first_image, IsCreateBrokenOff, HasCreated, Creates}
use Rattle.torn_journal.specs.Journal.{header, closed_gate, record_of, front_of, IsPayload, IsJournal}
use Rattle.torn_journal.specs.Limits.{header_length, record_overhead}

empty_list : (xs : List ℕ) → length xs ≡ 0 → xs ≡ []
empty_list [] none = refl
empty_list (x ∷ xs) none = absurd (omega arith)

-- a write on an empty image is the image
put_first : (image : List ℕ) → 0 < length image → put 0 [] 0 image ≡ image
put_first [] some = absurd (omega arith)
put_first (b ∷ bytes) some = ap (λ (l : List ℕ). (b ∷ bytes) ++ l) (drop_all (0 + length (b ∷ bytes)) [] (omega arith)) ∙ append-nil (b ∷ bytes)

length-first : (opening : List ℕ) → length (front_of (opening ∷ [])) ≡ header_length + record_overhead + length opening
length-first opening = omega (arith, length-append header (record_of opening ++ []), length-append (record_of opening) [], length-append (to_be_bytes w32 (length opening)) opening)

made_journal : (opening image : List ℕ) → IsPayload opening → image ≡ first_image opening → IsJournal image (opening ∷ [])
made_journal opening image sized is = record {
  gate = closed_gate;
  rest = [];
  is = is;
  shut = omega arith;
  each = All-push IsPayload [] opening (All-nil IsPayload) sized;
  small = omega (arith, sized.most, length-first opening);
}

module _ (opening image : List ℕ) (is : image ≡ first_image opening) (n : ℕ) (none : n ≡ 0) (x y z : Told) (size : n ≡ length (reads x.log)) (asked : Asks {E = Failed} (Ok n) x y) where
  pub create_broken : (e : Failed) (result : Result ℕ CreateFault) → result ≡ Err SiteFault → Secures 0 image (Err e) y z → Creates opening result x z
  create_broken e result fault secured' = subst (λ (r : Result ℕ CreateFault). Creates opening r x z) (sym fault)
      (ran_on false (λ acts. acts ≡ Asked ∷ []) (IsBrokenOff 0 image) (IsCreateBrokenOff opening (length (reads x.log))) x y z
      (λ p q asks off. inr (sym size ∙ none, (q, subst (λ (l : List ℕ). IsBrokenOff 0 l q) is off, ap (λ (l : List Act). q ++ l) asks)))
      asked.ran secured')

  module _ (sized : IsPayload opening) (u : Unit {0}) (secured' : Secures {E = Failed} 0 image (Ok u) y z) where
    made : Ran true (λ acts. acts ≡ secured 0 (first_image opening) ++ Asked ∷ []) x z
    made = ran_on true (λ acts. acts ≡ Asked ∷ []) (λ acts. acts ≡ secured 0 image) (λ acts. acts ≡ secured 0 (first_image opening) ++ Asked ∷ []) x y z
        (λ p q asks all. ap (λ (l : List Act). q ++ l) asks ∙ ap (λ (l : List Act). l ++ Asked ∷ []) (all ∙ ap (λ (l : List ℕ). secured 0 l) is))
        asked.ran secured'

    log : z.log ≡ Synced ∷ Wrote 0 (first_image opening) ∷ Asked ∷ x.log
    log = made.grew ∙ ap (λ (l : List Act). l ++ x.log) made.are

    empty : reads x.log ≡ []
    empty = empty_list (reads x.log) (sym size ∙ none)

    now : reads z.log ≡ first_image opening
    now = ap reads log ∙ ap (λ (l : List ℕ). put 0 l 0 (first_image opening)) empty ∙ put_first (first_image opening) (omega (arith, length-append (front_of (opening ∷ [])) (closed_gate ∷ [])))

    pub created : (tail : ℕ) → tail ≡ length image → HasCreated opening tail x z
    created tail long = record {
      empty = empty;
      ran = made;
      is = now;
      journal = made_journal opening (reads z.log) sized now;
      place = omega (arith, long, ap length is, length-append (front_of (opening ∷ [])) (closed_gate ∷ []));
      frames = ap sent log;
      pending = subst NothingPending (sym log) (synced _);
    }

-- the fault that a call hands on
pub handed_on : {T E : Type 0} (result : Result T E) (fault : E) → IsErrAnd result (λ e. e ≡ fault) → result ≡ Err fault
handed_on (Ok x) fault is = absurd is
handed_on (Err e) fault is = ap Err is
