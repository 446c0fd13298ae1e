use Rattle.std.proofs.Common.{◌≡◌, [], None, Some, subst}
use Rattle.std.specs.Prelude.{◌≢◌, IfOk, IfErr}
use Rattle.faim_base.specs.declared.judgement.Refused.TheVariants.{Byte, NoMemory}
use Rattle.faim_message.specs.declared.form.Form.{Form}
use Rattle.faim_message.specs.Spelling.{Spells}
use Rattle.faim_message.specs.Refusal.{Refuses}
use Rattle.faim_message.specs.Decoded.{decoded}
use Rattle.faim_message.proofs.Decodings.{refused_undecoded}
use Rattle.faim_message.proofs.PartialLemmas.{read_form, read_own, read_all, stop_refused}
use Rattle.faim_message.proofs.decoding.decode.Goals as goal

pub returns-then-count-bytes-clause-refused : goal.returns-then-count-bytes-clause-refused
returns-then-count-bytes-clause-refused c =
    stop_refused c.args.form c.args.bytes.now c.read-count.result (c.read-count.ensures.stops c.args.form [] c.new-part.ensures.nothing c.if-count-bytes.true)

pub returns-then-count-bytes-clause-none_read : goal.returns-then-count-bytes-clause-none_read
returns-then-count-bytes-clause-none_read c other =
    refused_undecoded c.args.form c.args.bytes.now (Byte c.read-count.result)
    (stop_refused c.args.form c.args.bytes.now c.read-count.result (c.read-count.ensures.stops c.args.form [] c.new-part.ensures.nothing c.if-count-bytes.true)) other

pub returns-else-count-bytes-clause-found : goal.returns-else-count-bytes-clause-found
returns-else-count-bytes-clause-found c =
    let read = read_all c.read-count.new.self c.args.form c.args.bytes.now c.read-count.result c.read-count.ensures.within c.if-count-bytes.false (c.read-count.ensures.read c.args.form [] c.new-part.ensures.nothing) in
    let P : Form → Type 0 = λ f. IfOk c.message.result (λ m. Spells m c.args.bytes.now × (m.form ≡ f)) in
    subst P (read_form c.read-count.new.self c.args.form c.args.bytes.now read) c.message.ensures.found

pub returns-else-count-bytes-clause-refused : goal.returns-else-count-bytes-clause-refused
returns-else-count-bytes-clause-refused c =
    let read = read_all c.read-count.new.self c.args.form c.args.bytes.now c.read-count.result c.read-count.ensures.within c.if-count-bytes.false (c.read-count.ensures.read c.args.form [] c.new-part.ensures.nothing) in
    let P : Form → Type 0 = λ f. IfErr c.message.result (λ e. Refuses f c.args.bytes.now e) in
    subst P (read_form c.read-count.new.self c.args.form c.args.bytes.now read) c.message.ensures.refused

pub returns-else-count-bytes-clause-read : goal.returns-else-count-bytes-clause-read
returns-else-count-bytes-clause-read c =
    let read = read_all c.read-count.new.self c.args.form c.args.bytes.now c.read-count.result c.read-count.ensures.within c.if-count-bytes.false (c.read-count.ensures.read c.args.form [] c.new-part.ensures.nothing) in
    let P : Form → Type 0 = λ f. IfOk c.message.result (λ m. decoded f c.args.bytes.now ≡ Some m) in
    subst P (read_form c.read-count.new.self c.args.form c.args.bytes.now read) c.message.ensures.read

pub returns-else-count-bytes-clause-none_read : goal.returns-else-count-bytes-clause-none_read
returns-else-count-bytes-clause-none_read c =
    let read = read_all c.read-count.new.self c.args.form c.args.bytes.now c.read-count.result c.read-count.ensures.within c.if-count-bytes.false (c.read-count.ensures.read c.args.form [] c.new-part.ensures.nothing) in
    let P : Form → Type 0 = λ f. IfErr c.message.result (λ e. e ≢ NoMemory → decoded f c.args.bytes.now ≡ None) in
    subst P (read_form c.read-count.new.self c.args.form c.args.bytes.now read) c.message.ensures.none_read

pub message-requires : goal.message-requires
message-requires c =
    read_own c.read-count.new.self c.args.form c.args.bytes.now
    (read_all c.read-count.new.self c.args.form c.args.bytes.now c.read-count.result c.read-count.ensures.within c.if-count-bytes.false (c.read-count.ensures.read c.args.form [] c.new-part.ensures.nothing))
