-- At one position there is one output.
use Rattle.std.proofs.Common.{◌≡◌, ⊎_elim, sym, ap, subst, ◌∙◌, ℕ, true, false, List, [], ◌∷◌, Some, Ok, arith}
use Rattle.std.specs.List.{AllByRecursion, Contains}
use Rattle.std.proofs.lemmas.Bool.Decides.{nat_tests}
use Rattle.faim_base.specs.declared.ids.Omad.{Omad}
use Rattle.faim_base.specs.declared.ids.OutPos.{OutPos}
use Rattle.faim_base.specs.Ids.{is_up_to, stamp_of}
use Rattle.faim_base.specs.Numbers.{IsMoment}
use Rattle.faim_message.specs.declared.form.Form.TheVariants as forms
use Rattle.faim_message.specs.Decoded.{decoded}
use Rattle.faim_message.specs.Spelling.{Content, mark_in, marked_with}
use Rattle.host_ledger.specs.declared.config.Config.{Config}
use Rattle.host_ledger.specs.declared.entries.Entry.{Entry}
use Rattle.host_ledger.specs.Soundness.{IsConfig}
use Rattle.link_frames.specs.declared.frame.FrameKind.TheVariants.{Output}
use Rattle.link_frames.specs.Frames.{Content as Frame}
use Rattle.faim_model.specs.Outputs.{Item, outputs}
use Rattle.faim_model.specs.Lawful.{Lawful, Rises, last_moment, moment_of}
use Rattle.faim_model.specs.Deliveries.{output_message}
use Rattle.faim_model.specs.Frames.{Covered}
use Rattle.faim_model.specs.Readings.{omad_in}
use Rattle.faim_model.proofs.Members.{first_or_later, none_in}
use Rattle.faim_model.proofs.Outside.{output_is_given}
use Rattle.faim_model.proofs.Positions.{names_position}
use Rattle.faim_model.proofs.Rising.{outputs_go_on}

up_to_itself : (p : OutPos) → is_up_to p p ≡ true
up_to_itself p = grind (arith, nat_tests)

not_later : (x j : Item) (later : List Item) → AllByRecursion (λ k. is_up_to k.at x.at ≡ false) later → Contains later j → j.at ≡ x.at → ⊥
not_later x j [] after there same = none_in j there
not_later x j (k ∷ later) after there same =
    ⊎_elim
    (λ (here : j ≡ k). let early : is_up_to j.at x.at ≡ false = subst (λ (i : Item). is_up_to i.at x.at ≡ false) (sym here) after.0 in
    let both : true ≡ false = sym (ap (λ (p : OutPos). is_up_to p x.at) same ∙ up_to_itself x.at) ∙ early in absurd cc)
    (λ more. not_later x j later after.1 more same) (first_or_later k j later there)

pub one_at : (items : List Item) (i j : Item) → Rises items → Contains items i → Contains items j → i.at ≡ j.at → i ≡ j
one_at [] i j rises there too same = absurd (none_in i there)
one_at (x ∷ later) i j rises there too same =
    ⊎_elim
    (λ (first : i ≡ x). ⊎_elim (λ (second : j ≡ x). first ∙ sym second)
    (λ more. absurd (not_later x j later rises.0 more (sym same ∙ ap (λ (k : Item). k.at) first))) (first_or_later x j later too))
    (λ more. ⊎_elim (λ (second : j ≡ x). absurd (not_later x i later rises.0 more (same ∙ ap (λ (k : Item). k.at) second)))
    (λ also. one_at later i j rises.1 more also same) (first_or_later x j later too))
    (first_or_later x i later there)

-- what an output names
abbrev Named : List ℕ → Item → Omad → Type 0
Named e i o = record { date = i.at.date; dest = e; seq = i.at.seq; stamp = stamp_of (moment_of i.entry) } ≡ o

pub outputs_differ_in_marks : (c : Config) (es : List Entry) (f g : Frame) (m w : Content) (o p : Omad) → IsConfig c → Lawful c es → IsMoment (last_moment es)
    → Covered c es f → Covered c es g → f.kind ≡ Output → g.kind ≡ Output
    → decoded forms.Output f.payload ≡ Some m → decoded forms.Output g.payload ≡ Some w
    → omad_in m ≡ Ok o → omad_in w ≡ Ok p → o.dest ≡ p.dest → o.date ≡ p.date → o.seq ≡ p.seq
    → (f.endpoint ≡ g.endpoint) × (marked_with 32 m ≡ marked_with 32 w)
outputs_differ_in_marks c es f g m w o p sound lawful in_calendar covered also is also_is read also_read names also_names dest date seq =
    let (i, there, marked, message) = output_is_given c es sound lawful in_calendar f m covered is read in
    let (j, also_there, also_marked, also_message) = output_is_given c es sound lawful in_calendar g w also also_is also_read in
    let k = mark_in forms.Output m.tags in
    let l = mark_in forms.Output w.tags in
    let first = sym (ap omad_in message ∙ names_position c es f.endpoint i k sound lawful in_calendar there) ∙ names in
    let second = sym (ap omad_in also_message ∙ names_position c es g.endpoint j l sound lawful in_calendar also_there) ∙ also_names in
    let own : Named f.endpoint i o = cc in
    let other : Named g.endpoint j p = cc in
    let line : f.endpoint ≡ g.endpoint = ap (λ (n : Omad). n.dest) own ∙ dest ∙ sym (ap (λ (n : Omad). n.dest) other) in
    let dates : i.at.date ≡ j.at.date = ap (λ (n : Omad). n.date) own ∙ date ∙ sym (ap (λ (n : Omad). n.date) other) in
    let numbers : i.at.seq ≡ j.at.seq = ap (λ (n : Omad). n.seq) own ∙ seq ∙ sym (ap (λ (n : Omad). n.seq) other) in
    let at : i.at ≡ j.at = (λ n. record { date = dates n; seq = numbers n }) in
    let moved : Contains (outputs c es f.endpoint) j = subst (λ (e : List ℕ). Contains (outputs c es e) j) (sym line) also_there in
    let one : i ≡ j = one_at (outputs c es f.endpoint) i j (outputs_go_on c es f.endpoint lawful).rises there moved at in (
      line,
      ap (marked_with 32) message ∙ ap (λ (x : Item). output_message c.env f.endpoint x 32) one
          ∙ ap (λ (e : List ℕ). output_message c.env e j 32) line ∙ ap (marked_with 32) (sym also_message),
    )
