-- An entry that follows holds what an entry may hold.
use Rattle.std.proofs.Common.{◌≡◌, refl, ap, subst, ℕ, ◌<◌, Bool, true, false, List, [], ◌∷◌, length, Option, Some, None, is_none, Ok, cond, arith}
use Rattle.std.specs.Str.{bytes_eq}
use Rattle.std.specs.List.{AllByRecursion, find}
use Rattle.std.specs.Option.{option_map_or}
use Rattle.faim_base.specs.declared.judgement.Head.{Head}
use Rattle.faim_base.specs.declared.judgement.Verdict.{Verdict}
use Rattle.faim_base.specs.declared.judgement.Verdict.TheVariants.{Taken, Refused}
use Rattle.faim_base.specs.Numbers.{IsMoment}
use Rattle.faim_base.specs.Ranges.{IsEndpoint}
use Rattle.faim_message.specs.declared.form.Form.TheVariants.{Input}
use Rattle.faim_message.specs.Spelling.{Content, IsMessage, Spells, mark_byte, message_spelling}
use Rattle.faim_message.specs.Heads.{head_of}
use Rattle.faim_message.proofs.HeadRanges.{in_range}
use Rattle.faim_message.proofs.Lengths.{message_short}
use Rattle.faim_message.proofs.MarkBytes.{mark_within}
use Rattle.host_ledger.specs.declared.config.Account.{Account}
use Rattle.host_ledger.specs.declared.config.Config.{Config}
use Rattle.host_ledger.specs.declared.entries.Entry.{Entry}
use Rattle.host_ledger.specs.declared.entries.Entry.TheVariants.{Posted, Roll}
use Rattle.host_ledger.specs.Accounts.{account_of, endpoint_of}
use Rattle.host_ledger.specs.Ranges.{IsBody, IsEntry, IsHead, IsVerdict}
use Rattle.host_ledger.specs.Soundness.{IsAccount, IsConfig}
use Rattle.faim_model.specs.Outputs.{sent_in_cycle}
use Rattle.faim_model.specs.Submissions.{text_with}
use Rattle.faim_model.specs.Lawful.{Follows, PostFollows, moment_of}
use Rattle.faim_model.proofs.Accepted.{not_yet}
use Rattle.faim_model.proofs.Judgements.{posted_taken}
use Rattle.faim_model.proofs.Recorded.{kept_recorded}
use Rattle.faim_model.proofs.Submitted.{numbered_from}

-- what is found in a list has what each of it has
found_each : {A : Type 0} (P : A → Type 0) (p : A → Bool) (xs : List A) (x : A) → AllByRecursion P xs → find p xs ≡ Some x → P x
found_each P p [] x each found = absurd cc
found_each P p (y ∷ xs) x each found = first_or (p y) found (found_each P p xs x each.1)
  where
    first_or : (b : Bool) → cond b (Some y) (find p xs) ≡ Some x → (find p xs ≡ Some x → P x) → P x
    first_or true found later = let same : y ≡ x = cc in subst P same each.0
    first_or false found later = later found

head_sound : (m : Content) (h : Head) → IsMessage m → m.form ≡ Input → head_of m ≡ Ok h → IsHead h
head_sound m h sound form head =
    let r = in_range m h sound form head in
    record { imad = r.imad; sender = r.sender; receiver = r.receiver; code = (r.code_length, r.code_text); kind = r.kind; sub = r.sub; amount = r.amount }

body_fits : (m : Content) (body : List ℕ) → Spells m body → IsBody body
body_fits m body spells =
    let within : mark_byte m.form < length (message_spelling m) = mark_within m spells.sound in
    let long : length body ≡ length (message_spelling m) = ap length spells.spelled in
    (omega arith, message_short m body spells)

endpoint_by : (c : Config) (aba : List ℕ) (found : Option Account) → IsConfig c → account_of c aba ≡ found → is_none found ≡ false
    → IsEndpoint (option_map_or (λ (a : Account). a.endpoint) found [])
endpoint_by c aba None sound is known = absurd cc
endpoint_by c aba (Some a) sound is known = (found_each IsAccount (λ b. bytes_eq b.aba aba) c.accounts a sound.accounts.each is).endpoint

verdict_fits : (c : Config) (older : List Entry) (h : Head) (body : List ℕ) (resent : Bool) (moment : ℕ) (v : Verdict) → IsConfig c
    → PostFollows c older h body resent moment v → IsVerdict v
verdict_fits c older h body resent moment (Refused why) sound f =
    kept_recorded c older h.imad.source moment (text_with f.mark body) why f.judged
verdict_fits c older h body resent moment (Taken dest seq) sound f =
    let taken = posted_taken c older h body resent moment dest seq f in
    let few : sent_in_cycle c older (endpoint_of c h.receiver) < 999_998 = not_yet 999_998 (sent_in_cycle c older (endpoint_of c h.receiver)) taken.not_full in (
      subst IsEndpoint taken.dest_is (endpoint_by c h.receiver (account_of c h.receiver) sound refl taken.receiver_known),
      (omega (arith, taken.seq_is), omega (arith, taken.seq_is, few)),
    )

-- an entry that follows at a moment has a spelling
pub follows_spelled : (c : Config) (older : List Entry) (x : Entry) → IsConfig c → Follows c older x → IsMoment (moment_of x) → IsEntry x
follows_spelled c older (Roll moment date) sound f at = (at, f.day)
follows_spelled c older (Posted h body resent moment v) sound f at =
    let n = numbered_from c.env body h body 32 f.failed f.spelled in
    (head_sound n.message h n.spells.sound n.is_input n.head, at, verdict_fits c older h body resent moment v sound f, body_fits n.message body n.spells)
