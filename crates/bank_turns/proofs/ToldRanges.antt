-- What an acknowledgement tells a bank is of the bank's own, and an entry may hold it.
use Rattle.std.proofs.Common.{◌≡◌, refl, subst, ℕ, ◌==◌, ◌&&◌, Bool, true, false, List, Option, Some, None, option_map}
use Rattle.std.specs.Prelude.{bytes_eq, if◌then◌else◌, Result, Ok, Err}
use Rattle.std.specs.List.{find}
use Rattle.std.proofs.lemmas.Bool.{and_parts}
use Rattle.faim_base.specs.Ranges.{IsImad}
use Rattle.faim_base.specs.Refusals.{is_recorded}
use Rattle.faim_base.specs.declared.ids.IdFault.{IdFault}
use Rattle.faim_base.specs.declared.ids.Imad.{Imad}
use Rattle.faim_base.specs.declared.ids.Omad.{Omad}
use Rattle.faim_base.specs.declared.judgement.Verdict.{Verdict}
use Rattle.faim_base.specs.declared.judgement.Verdict.TheVariants.{Taken, Refused}
use Rattle.faim_message.specs.declared.form.Form.TheVariants.{Ack}
use Rattle.faim_message.specs.Decoded.{decoded}
use Rattle.faim_message.specs.Heads.{fixed_in}
use Rattle.faim_message.specs.Spelling.{Content, EachTag}
use Rattle.faim_message.proofs.Decodings.{decoded_spelled}
use Rattle.faim_edits.specs.Printing.{refusal_code}
use Rattle.faim_edits.specs.Texts.{Listed, listed}
use Rattle.host_ledger.specs.Ranges.{IsVerdict}
use Rattle.bank_books.specs.declared.entries.BankOpening.{BankOpening}
use Rattle.faim_model.specs.Readings.{imad_in, omad_in, refused_as}
use Rattle.faim_model.proofs.Imads.{bytes_equal}
use Rattle.bank_turns.specs.AckTexts.{Told, ack_told, env_in, has_tag, taken_under, told_by, told_in, told_of, verdict_on}
use Rattle.bank_turns.proofs.Looked.{found_passes, imad_named, omad_named}

-- a verdict that is found is one that an entry may hold
abbrev Ranged : Option Verdict → Type 0
Ranged found = (v : Verdict) → found ≡ Some v → IsVerdict v

none_ranged : Ranged None
none_ranged v is = absurd cc

taken_ranged : (imad : Imad) (m : Content) → EachTag m.tags
    → (read : Result Omad IdFault) → omad_in m ≡ read → Ranged (taken_under imad read)
taken_ranged imad m each (Err fault) is = none_ranged
taken_ranged imad m each (Ok omad) is = go (omad.date == imad.date)
  where
    go : (b : Bool) → Ranged (if b then Some (Taken omad.dest omad.seq) else None)
    go false v taken = absurd cc
    go true v taken =
        let same : Taken omad.dest omad.seq ≡ v = cc in
        let sound = omad_named m.tags omad each is in
        subst IsVerdict same (sound.receiver, sound.number)

-- a listed refusal of this code that an entry may keep
abbrev is_kept : List ℕ → Listed → Bool
is_kept code l = is_recorded l.refusal && bytes_eq (refusal_code l.refusal) code

refused_ranged : (code : List ℕ) → Ranged (refused_as code)
refused_ranged code = go (find (is_kept code) listed) refl
  where
    go : (found : Option Listed) → find (is_kept code) listed ≡ found → Ranged (option_map (λ (l : Listed). Refused l.refusal) found)
    go None is v refused = absurd cc
    go (Some l) is v refused =
        let same : Refused l.refusal ≡ v = cc in
        let passes = found_passes (is_kept code) listed l is in
        subst IsVerdict same (and_parts (is_recorded l.refusal) (bytes_eq (refusal_code l.refusal) code) passes).0

verdict_ranged : (imad : Imad) (m : Content) → EachTag m.tags → Ranged (verdict_on imad m)
verdict_ranged imad m each = go (has_tag m 1120) (has_tag m 1130)
  where
    go : (b c : Bool) → Ranged (if b then (if c then None else taken_under imad (omad_in m))
        else (if c then refused_as (fixed_in m.tags 1130) else None))
    go true true = none_ranged
    go true false = taken_ranged imad m each (omad_in m) refl
    go false true = refused_ranged (fixed_in m.tags 1130)
    go false false = none_ranged

-- what is told is of the bank's own, and in its range
pub record ToldOf (o : BankOpening) (t : Told) : Type 0 where
  pub imad : IsImad t.imad
  pub own : t.imad.source ≡ o.endpoint
  pub verdict : IsVerdict t.verdict

told_with : (o : BankOpening) (imad : Imad) (found : Option Verdict) (t : Told) → IsImad imad → imad.source ≡ o.endpoint → Ranged found
    → told_of imad found ≡ Some t → ToldOf o t
told_with o imad None t sound own ranged told = absurd cc
told_with o imad (Some verdict) t sound own ranged told =
    let same : record { imad = imad; verdict = verdict } ≡ t = cc in
    subst (λ (u : Told). ToldOf o u) same (record { imad = sound; own = own; verdict = ranged verdict refl })

named_told : (o : BankOpening) (m : Content) (t : Told) → EachTag m.tags → (read : Result Imad IdFault) → imad_in m ≡ read
    → told_by o m read ≡ Some t → ToldOf o t
named_told o m t each (Err fault) is told = absurd cc
named_told o m t each (Ok imad) is told = go (bytes_eq imad.source o.endpoint) refl told
  where
    go : (b : Bool) → bytes_eq imad.source o.endpoint ≡ b → (if b then told_of imad (verdict_on imad m) else None) ≡ Some t → ToldOf o t
    go false own told = absurd cc
    go true own told =
        told_with o imad (verdict_on imad m) t (imad_named m.tags imad each is) (bytes_equal imad.source o.endpoint own)
        (verdict_ranged imad m each) told

message_told : (o : BankOpening) (m : Content) (t : Told) → EachTag m.tags → told_in o (Some m) ≡ Some t → ToldOf o t
message_told o m t each = go (env_in m == o.env)
  where
    go : (b : Bool) → (if b then told_by o m (imad_in m) else None) ≡ Some t → ToldOf o t
    go false told = absurd cc
    go true told = named_told o m t each (imad_in m) refl told

pub ack_ranged : (o : BankOpening) (payload : List ℕ) (t : Told) → ack_told o payload ≡ Some t → ToldOf o t
ack_ranged o payload t = go (decoded Ack payload) refl
  where
    go : (found : Option Content) → decoded Ack payload ≡ found → told_in o found ≡ Some t → ToldOf o t
    go None is told = absurd cc
    go (Some m) is told = message_told o m t (decoded_spelled Ack payload m is).0.sound.tags_sound.each told
