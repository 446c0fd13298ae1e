use Rattle.std.proofs.Common.{◌≡◌, ℕ, List, ◌++◌, refl, sym, ap, subst, ◌∙◌, length-append, arith}
use Rattle.faim_message.specs.declared.form.Form.{Form}
use Rattle.faim_message.specs.Partial.{form_of}
use Rattle.faim_message.specs.Refusal.{StopsAt}
use Rattle.faim_message.proofs.PartialLemmas.{read_begins}
use Rattle.faim_message.proofs.Reasons.{begun_short, stops_short}
use Rattle.faim_stream.specs.Fed.{Held}
use Rattle.faim_stream.proofs.Feeding.{stopped_more, still_fed, going}
use Rattle.faim_stream.proofs.decoder.Decoder.take.Goals as goal

pub returns-in-Some-clause-fed : goal.returns-in-Some-clause-fed
returns-in-Some-clause-fed c fed h =
    still_fed c.args.self.now c.in-Some.place fed c.args.piece.now (sym (ap (λ (d : Held). d.stop) c.self.view_is) ∙ c.in-Some.is) h

pub returns-in-Some-clause-judged : goal.returns-in-Some-clause-judged
returns-in-Some-clause-judged c fed h =
    (c.in-Some.place, refl, stopped_more c.args.self.now c.in-Some.place fed c.args.piece.now (sym (ap (λ (d : Held). d.stop) c.self.view_is) ∙ c.in-Some.is) h)

pub keep-requires : goal.keep-requires
keep-requires c =
    let d = c.self.inside in
    let read = c.read-count.ensures.read (form_of d.part) d.room.items (c.self.invariant.1 c.in_default.is) (omega (arith, c.read-count.ensures.within, c.if-count-piece.false)) in
    omega (arith, d.room.ok, c.self.invariant.0, begun_short (form_of d.part) (d.room.items ++ c.args.piece.now) (read_begins c.read-count.new.self (form_of d.part) (d.room.items ++ c.args.piece.now) read), length-append d.room.items c.args.piece.now)

pub returns-clause-judged : goal.returns-clause-judged
returns-clause-judged c fed h p s =
    let d = c.self.inside in
    let piece = c.args.piece.now in
    let read = c.read-count.ensures.read (form_of d.part) d.room.items (c.self.invariant.1 c.in_default.is) (omega (arith, c.read-count.ensures.within, c.if-count-piece.false)) in
    let same : d.room.items ≡ fed = ap (λ (e : Held). e.bytes) c.self.view_is ∙ going c.args.self.now fed (sym (ap (λ (e : Held). e.stop) c.self.view_is) ∙ c.in_default.is) h in
    let P : Form → Type 0 = λ f. StopsAt f (fed ++ piece) p in
    let Q : List ℕ → Type 0 = λ l. StopsAt (form_of d.part) (l ++ piece) p in
    stops_short (form_of d.part) (d.room.items ++ piece) p (subst Q (sym same) (subst P (sym (ap (λ (e : Held). e.form) c.self.view_is)) s)) (read_begins c.read-count.new.self (form_of d.part) (d.room.items ++ piece) read)
