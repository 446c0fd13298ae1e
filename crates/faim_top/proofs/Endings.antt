-- What the end of a run says, by what was read and written.
use Rattle.std.proofs.Common.{◌≡◌, ◌≢◌, ◌⊎◌, inl, inr, ⊎_elim, ℕ, zero, suc, ◌+◌, ◌<◌, ◌≤◌, Bool, true, false, List, [], ◌∷◌, ◌++◌, length, take, length-append, append-nil, Option, Some, None, sym, ◌∙◌, ap, refl, subst, arith}
use Rattle.std.specs.Prelude.{Result, Ok, Err, IfSome, nat_le, if◌then◌else◌}
use Rattle.std.specs.Io.KnownBytes.{Appends, Consumes, IsAtEnd}
use Rattle.std.proofs.lemmas.Bool.Decides.{nat_tests}
use Rattle.std.proofs.lemmas.List.{length-take-le}
use Rattle.faim_base.specs.Limits.{longest_message}
use Rattle.faim_base.specs.declared.judgement.Refused as refusals
use Rattle.faim_base.specs.declared.judgement.Refused.TheVariants as refused
use Rattle.faim_message.specs.declared.form.Form.{Form}
use Rattle.faim_message.specs.declared.form.Form.TheVariants.{Input}
use Rattle.faim_message.specs.Spelling.{Content, Spells, message_spelling}
use Rattle.faim_message.specs.Refusal.{Begins, StopsAt, Refuses}
use Rattle.faim_edits.specs.Printing.{table_text}
use Rattle.faim_top.specs.declared.query.Query.{Query}
use Rattle.faim_top.specs.declared.query.Query.TheVariants.{Check, Table, Replay}
use Rattle.faim_top.specs.declared.status.Status.{Status}
use Rattle.faim_top.specs.declared.status.Status.TheVariants.{Done, Refused, ReadFault, WriteFault}
use Rattle.faim_top.specs.declared.status.Reason.{Reason}
use Rattle.faim_top.specs.declared.status.Reason.TheVariants as reasons
use Rattle.faim_top.specs.Checks.{IsInput, IsRefused, failed_edit, message_status, message_text}
use Rattle.world_text.specs.Report.{refusal_line}
use Rattle.world_text.specs.Grammar.{script_of}
use Rattle.faim_top.specs.Seen.{Seen}
use Rattle.faim_top.specs.Sources.{AnswersSource}
use Rattle.faim_top.specs.Ends.{Ended, Answers, Checked, AppendsPart, IsAnswered, Streams, Writes, WritesPart, ReadToEnd, Reads, input_of, most_read, answer_text, answer_status}

-- no message is longer than the longest
abbrev pub AreShort : Type 0
AreShort = (m : Content) (bytes : List ℕ) → Spells m bytes → length bytes ≤ longest_message

-- a message isn't refused
abbrev pub NotRefused : Type 0
NotRefused = (m : Content) (bytes : List ℕ) (e : refusals.Refused) → Spells m bytes → Refuses m.form bytes e → e ≡ refused.NoMemory

-- bytes are refused for one reason
abbrev pub OneReason : Type 0
OneReason = (form : Form) (bytes : List ℕ) (a b : refusals.Refused) → Refuses form bytes a → Refuses form bytes b → (a ≡ b) ⊎ ((a ≡ refused.NoMemory) ⊎ (b ≡ refused.NoMemory))

-- a message of a form has one spelling, and a spelling one message
abbrev pub OneMessage : Type 0
OneMessage = (m w : Content) (bytes : List ℕ) → m.form ≡ w.form → Spells m bytes → Spells w bytes → m ≡ w

-- what begins a message is no longer than one
pub begins_short : AreShort → (form : Form) (bytes : List ℕ) → Begins form bytes → length bytes ≤ longest_message
begins_short short form bytes b =
    omega (arith, short b.message (message_spelling b.message) (record { sound = b.sound; spelled = refl }), ap length b.goes, length-append bytes b.rest)

-- an answer is no fault
pub no_fault : (query : Query) (left : Seen (Option (List ℕ))) (status : Status) (bytes : List ℕ) → AnswersSource query left status bytes → ((status ≡ ReadFault) ⊎ (status ≡ WriteFault)) → ⊥
no_fault query left status bytes h fault = ⊎_elim
    (λ (e : (status ≡ Done) × ReadToEnd query left.after). let f : status ≡ Done = e.0 in ⊎_elim (λ (r : status ≡ ReadFault). absurd (cc (f, r))) (λ (w : status ≡ WriteFault). absurd (cc (f, w))) fault)
    (λ (e : (why : Reason) × (status ≡ Refused why)). let f : status ≡ Refused e.0 = e.1 in ⊎_elim (λ (r : status ≡ ReadFault). absurd (cc (f, r))) (λ (w : status ≡ WriteFault). absurd (cc (f, w))) fault)
    h.proper

writes : (query : Query) (left : Option (List ℕ)) (w : Seen (Option (List ℕ))) (status : Status) (bytes : List ℕ)
    → IfSome left (λ whole. Answers query whole status bytes) → Appends w.before w.after bytes → IfSome left (λ whole. Writes query whole status w)
writes query None w status bytes h grew = tt
writes query (Some xs) w status bytes h grew = record { bytes = bytes; answers = h; grows = grew }

-- all of the answer is written
pub written : (query : Query) (s : Streams) (status : Status) (bytes : List ℕ) → AnswersSource query s.left status bytes → Appends s.written.before s.written.after bytes → Ended query status s
written query s status bytes h grew =
    let P : Status → Type 0 = λ st. Ended query st s in
    let Q : Status → Type 0 = λ st. IfSome (input_of query s.left.before) (λ text. Writes query text st s.written) in
    let all : Q status = writes query (input_of query s.left.before) s.written status bytes h.whole grew in
    ⊎_elim
    (λ (e : (status ≡ Done) × ReadToEnd query s.left.after). subst P (sym e.0) (subst Q e.0 all, e.1))
    (λ (e : (why : Reason) × (status ≡ Refused why)). let f : status ≡ Refused e.0 = e.1 in subst P (sym f) (subst Q f all))
    h.proper

-- a part of it is
writes_part : (query : Query) (left : Option (List ℕ)) (w : Seen (Option (List ℕ))) (status : Status) (bytes : List ℕ)
    → IfSome left (λ whole. Answers query whole status bytes) → AppendsPart w bytes → IfSome left (λ whole. WritesPart query whole w)
writes_part query None w status bytes h part = tt
writes_part query (Some xs) w status bytes h part = record { status = status; bytes = bytes; answers = h; part = part }

pub written_part : (query : Query) (s : Streams) (status : Status) (bytes : List ℕ) → AnswersSource query s.left status bytes → AppendsPart s.written bytes → Ended query WriteFault s
written_part query s status bytes h part = writes_part query (input_of query s.left.before) s.written status bytes h.whole part

-- the status is that of the answer to all that there was
some_bytes : (query : Query) (left : Option (List ℕ)) (status : Status) (bytes : List ℕ) → IfSome left (λ whole. Answers query whole status bytes) → IfSome left (IsAnswered query status)
some_bytes query None status bytes h = tt
some_bytes query (Some xs) status bytes h = (bytes, h)

pub answered : (query : Query) (left : Seen (Option (List ℕ))) (status : Status) (bytes : List ℕ) → AnswersSource query left status bytes → IfSome (input_of query left.before) (IsAnswered query status)
answered query left status bytes h = some_bytes query (input_of query left.before) status bytes h.whole

-- an input has one answer
same_reason : OneReason → (text : List ℕ) (a b : refusals.Refused) → IsRefused text a → IsRefused text b → a ≡ b
same_reason once text a b h k = ⊎_elim
    (λ (same : a ≡ b). same)
    (λ (none : (a ≡ refused.NoMemory) ⊎ (b ≡ refused.NoMemory)). ⊎_elim (λ (e : a ≡ refused.NoMemory). absurd (h.judged e)) (λ (e : b ≡ refused.NoMemory). absurd (k.judged e)) none)
    (once Input text a b h.refuses k.refuses)

not_both : NotRefused → (text : List ℕ) (why : refusals.Refused) → IsInput text → IsRefused text why → ⊥
not_both never text why m h =
    let P : Form → Type 0 = λ f. Refuses f text why in
    h.judged (never m.message text why m.spells (subst P (sym m.kind) h.refuses))

one_check : OneMessage → NotRefused → OneReason → (text : List ℕ) (s t : Status) (a b : List ℕ) → Checked text s a → Checked text t b → (s ≡ t) × (a ≡ b)
one_check one never once text s t a b (inl h) (inl k) =
    let same : h.0.message ≡ k.0.message = one h.0.message k.0.message text (h.0.kind ∙ sym k.0.kind) h.0.spells k.0.spells in
    (h.1 ∙ ap (λ (m : Content). message_status (failed_edit m)) same ∙ sym k.1, h.2 ∙ ap (λ (m : Content). message_text (failed_edit m) text) same ∙ sym k.2)
one_check one never once text s t a b (inl h) (inr k) = absurd (not_both never text k.0 h.0 k.1)
one_check one never once text s t a b (inr h) (inl k) = absurd (not_both never text h.0 k.0 h.1)
one_check one never once text s t a b (inr h) (inr k) =
    let same : h.0 ≡ k.0 = same_reason once text h.0 k.0 h.1 k.1 in
    (h.2 ∙ ap (λ (e : refusals.Refused). Refused (reasons.Text e)) same ∙ sym k.2, h.3 ∙ ap refusal_line same ∙ sym k.3)

pub one_answer : OneMessage → NotRefused → OneReason → (query : Query) (text : List ℕ) (s t : Status) (a b : List ℕ) → Answers query text s a → Answers query text t b → (s ≡ t) × (a ≡ b)
one_answer one never once Check text s t a b h k = one_check one never once text s t a b h k
one_answer one never once Table text s t a b h k = (h.0 ∙ sym k.0, h.1 ∙ sym k.1)
one_answer one never once Replay text s t a b h k = (h.0 ∙ sym k.0, h.1 ∙ sym k.1)

-- an input is a message, or it is refused
abbrev pub EachJudged : Type 0
EachJudged = (form : Form) (bytes : List ℕ) → ((m : Content) × Spells m bytes × (m.form ≡ form)) ⊎ ((e : refusals.Refused) × Refuses form bytes e × (e ≢ refused.NoMemory))

-- an input has an answer
pub some_answer : EachJudged → (query : Query) (text : List ℕ) → (status : Status) × IsAnswered query status text
some_answer each Check text = ⊎_elim
    (λ (m : (m : Content) × Spells m text × (m.form ≡ Input)). (message_status (failed_edit m.0), (message_text (failed_edit m.0) text, inl (record { message = m.0; kind = m.2; spells = m.1 }, refl, refl))))
    (λ (e : (e : refusals.Refused) × Refuses Input text e × (e ≢ refused.NoMemory)). (Refused (reasons.Text e.0), (refusal_line e.0, inr (e.0, record { refuses = e.1; judged = e.2 }, refl, refl))))
    (each Input text)
some_answer each Table text = (Done, (table_text, (refl, refl)))
some_answer each Replay text = (answer_status (script_of text), (answer_text (script_of text), (refl, refl)))
