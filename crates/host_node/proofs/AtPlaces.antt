-- The frames of the entry at a place, one by one, and that each of them fits.
use Rattle.std.proofs.Common.{◌≡◌, ⊎_elim, inl, inr, refl, sym, ap, subst, ◌∙◌, ℕ, ◌+◌, ◌<◌, ◌≤◌, ◌==◌, Bool, true, false, List, [], ◌∷◌, ◌++◌, length, map, Option, Some, None, option_map, option_and_then, if◌then◌else◌, arith, length-append}
use Rattle.std.specs.Prelude.{IsSome}
use Rattle.std.specs.List.{Contains}
use Rattle.std.proofs.lemmas.Bool.{eq-eqb, eqb-true, ne_eqb}
use Rattle.std.proofs.lemmas.Bool.Decides.{nat_tests}
use Rattle.faim_base.specs.declared.ids.OutPos.{OutPos}
use Rattle.faim_base.specs.declared.judgement.Head.{Head}
use Rattle.faim_base.specs.declared.judgement.Reject.{Reject}
use Rattle.faim_base.specs.declared.judgement.Verdict.TheVariants.{Taken, Refused}
use Rattle.faim_base.specs.Numbers.{IsMoment}
use Rattle.host_ledger.specs.declared.config.Config.{Config}
use Rattle.host_ledger.specs.declared.entries.Entry.{Entry}
use Rattle.host_ledger.specs.declared.entries.Entry.TheVariants.{Posted, Roll}
use Rattle.host_ledger.specs.Accounts.{endpoints_of, has_endpoint}
use Rattle.host_ledger.specs.Soundness.{IsConfig}
use Rattle.host_ledger.specs.Sums.{cycle}
use Rattle.link_frames.specs.declared.frame.FrameKind.TheVariants.{Ack, Output}
use Rattle.link_frames.specs.Frames.{Content as Frame, greatest_payload}
use Rattle.faim_model.specs.Outputs.{Item, one_if, sent_in_cycle}
use Rattle.faim_model.specs.Lawful.{Lawful, moment_of}
use Rattle.faim_model.specs.Turns.{entry_at}
use Rattle.faim_model.specs.Frames.{IsAckMark, IsOutputMark, ack, ack_of, output}
use Rattle.faim_model.specs.Items.{item_at, position_at}
use Rattle.faim_model.specs.Payloads.{ack_payload, output_payload, payload_of}
use Rattle.faim_model.specs.Sending.{frames_of}
use Rattle.faim_model.proofs.Covering.{covered_fits}
use Rattle.faim_model.proofs.Exact.{refused_frames, roll_frames, taken_frames}
use Rattle.faim_model.proofs.Imads.{bytes_pass}
use Rattle.faim_model.proofs.Members.{first_in, later_in}
use Rattle.faim_model.proofs.Places.{at_newest}
use Rattle.faim_model.proofs.Served.{served}
use Rattle.faim_model.proofs.Standing.{stand_at_places}
use Rattle.host_core.proofs.CycleEnds.{taken_at}
use Rattle.host_core.proofs.ItemPlaces.{given_between, position_in}
use Rattle.host_turns.proofs.GivenItems.{Gives, entry_given, gives, is_some_at, position_is, same_in_some}
use Rattle.host_node.specs.Resending.{OutputsFit, ack_to, frames_at, output_to}

-- the entry at a place splits its list into newer entries and older ones
record IsAround (es : List Entry) (place : ℕ) (x : Entry) : Type 0 where
  newer : List Entry
  older : List Entry
  parts : es ≡ newer ++ x ∷ older
  before : length older ≡ place

around_by : (y : Entry) (es : List Entry) (place : ℕ) (x : Entry) (here : Bool) → (length es == place) ≡ here
    → (if here then Some y else entry_at es place) ≡ Some x → (entry_at es place ≡ Some x → IsAround es place x) → IsAround (y ∷ es) place x
around_by y es place x true test at rest =
    let same : y ≡ x = cc in
    record { newer = []; older = es; parts = ap (λ (z : Entry). z ∷ es) same; before = eqb-true (length es) place test }
around_by y es place x false test at rest =
    let r = rest at in
    record { newer = y ∷ r.newer; older = r.older; parts = ap (λ (l : List Entry). y ∷ l) r.parts; before = r.before }

around : (es : List Entry) (place : ℕ) (x : Entry) → entry_at es place ≡ Some x → IsAround es place x
around [] place x at = absurd cc
around (y ∷ es) place x at = around_by y es place x (length es == place) refl at (around es place x)

-- so what holds between any newer and older entries holds at the place
at_parts : (P : List Entry → ℕ → Type 0) (es : List Entry) (place : ℕ) (x : Entry) → entry_at es place ≡ Some x
    → ((newer older : List Entry) → P (newer ++ x ∷ older) (length older)) → P es place
at_parts P es place x at each =
    let r = around es place x at in
    subst (λ (n : ℕ). P es n) r.before (subst (λ (l : List Entry). P l (length r.older)) (sym r.parts) (each r.newer r.older))

-- an entry stands at each place below the length
pub none_missing : (es : List Entry) (place : ℕ) → place < length es → entry_at es place ≡ None → ⊥
none_missing [] place lt none = omega (arith, lt)
none_missing (y ∷ older) place lt none = grind (arith, nat_tests, none_missing older place)

-- the newest entry's frames, and those of one before it
pub frames_newest : (c : Config) (x : Entry) (older : List Entry) (place mark : ℕ) → length older ≡ place → frames_at c (x ∷ older) place mark ≡ frames_of c older x mark
frames_newest c x older place mark here =
    ap (λ (b : Bool). if b then frames_of c older x mark else frames_at c older place mark) (eq-eqb (length older) place here)

pub frames_before : (c : Config) (y : Entry) (es : List Entry) (place mark : ℕ) → place < length es → frames_at c (y ∷ es) place mark ≡ frames_at c es place mark
frames_before c y es place mark below =
    ap (λ (b : Bool). if b then frames_of c es y mark else frames_at c es place mark) (ne_eqb (length es) place (λ same. absurd (omega arith)))

-- those of an entry between newer and older ones
frames_between : (c : Config) (newer : List Entry) (x : Entry) (older : List Entry) (mark : ℕ)
    → frames_at c (newer ++ x ∷ older) (length older) mark ≡ frames_of c older x mark
frames_between c [] x older mark = frames_newest c x older (length older) mark refl
frames_between c (y ∷ newer) x older mark =
    let below : length older < length (newer ++ x ∷ older) = omega (arith, length-append newer (x ∷ older)) in
    frames_before c y (newer ++ x ∷ older) (length older) mark below ∙ frames_between c newer x older mark

-- a front part of a lawful list is lawful
lawful_front : (c : Config) (newer : List Entry) (x : Entry) (older : List Entry) → Lawful c (newer ++ x ∷ older) → Lawful c (x ∷ older)
lawful_front c [] x older lawful = lawful
lawful_front c (y ∷ newer) x older lawful = lawful_front c newer x older lawful.1

-- the item that an entry gives an endpoint, from its position
item_is : (c : Config) (es : List Entry) (e : List ℕ) (place : ℕ) (p : OutPos) (x : Entry) → position_at c es e place ≡ Some p → entry_at es place ≡ Some x
    → item_at c es e place ≡ Some (record { at = p; place = place; entry = x })
item_is c es e place p x is stands =
    let g : Gives c es e place = gives c es e place (is_some_at (position_at c es e place) p is) in
    let own : g.item.at ≡ p = same_in_some g.item.at p (sym (position_is c es e place g) ∙ is) in
    let entry : g.item.entry ≡ x =
    same_in_some g.item.entry x (sym (entry_given c es e place g (stand_at_places c es e g.item g.there)) ∙ stands) in
    g.found ∙ (λ k. Some (record { at = own k; place = g.stands k; entry = entry k }))

output_is : (c : Config) (es : List Entry) (e : List ℕ) (place mark : ℕ) (p : OutPos) (x : Entry) → position_at c es e place ≡ Some p → entry_at es place ≡ Some x
    → output c e (record { at = p; place = place; entry = x }) mark ≡ output_to c es place mark e
output_is c es e place mark p x is stands =
    ap (λ (o : Option Item). record { kind = Output; endpoint = e; payload = payload_of (option_map (λ i. output c e i mark) o) })
    (sym (item_is c es e place p x is stands))

-- its acknowledgement
ack_is : (c : Config) (es : List Entry) (place mark : ℕ) (e : List ℕ) (f : Frame) (x : Entry) → ack_of c mark x ≡ Some f → entry_at es place ≡ Some x
    → record { kind = Ack; endpoint = e; payload = f.payload } ≡ ack_to c es place mark e
ack_is c es place mark e f x acked stands =
    ap (λ (o : Option Frame). record { kind = Ack; endpoint = e; payload = payload_of o })
    (sym (ap (option_and_then (ack_of c mark)) stands ∙ acked))

-- the frames of an accepted message
pub taken_sent : (c : Config) (es : List Entry) (place mark : ℕ) (h : Head) (body : List ℕ) (resent : Bool) (moment : ℕ) (dest : List ℕ) (seq : ℕ)
    → Lawful c es → entry_at es place ≡ Some (Posted h body resent moment (Taken dest seq))
    → frames_at c es place mark ≡ ack_to c es place mark h.imad.source ∷ output_to c es place mark dest ∷ []
taken_sent c es place mark h body resent moment dest seq lawful stands =
    let x : Entry = Posted h body resent moment (Taken dest seq) in
    let p : OutPos = record { date = h.imad.date; seq = seq } in
    at_parts (λ (l : List Entry) (n : ℕ). Lawful c l → entry_at l n ≡ Some x
    → frames_at c l n mark ≡ ack_to c l n mark h.imad.source ∷ output_to c l n mark dest ∷ []) es place x stands
    (λ newer older sound there.
    let l : List Entry = newer ++ x ∷ older in
    let position : position_at c l dest (length older) ≡ Some p =
    taken_at c l dest (length older) h body resent moment dest seq there ∙ ap (λ (b : Bool). if b then Some p else None) (bytes_pass dest dest refl) in
    frames_between c newer x older mark ∙ taken_frames c older mark h body resent moment dest seq (lawful_front c newer x older sound).0
    ∙ (λ k. ack_is c l (length older) mark h.imad.source _ x refl there k ∷ output_is c l dest (length older) mark p x position there k ∷ []))
    lawful stands

-- where it stands, its destination is given an output
pub taken_given : (c : Config) (es : List Entry) (place : ℕ) (h : Head) (body : List ℕ) (resent : Bool) (moment : ℕ) (dest : List ℕ) (seq : ℕ)
    → entry_at es place ≡ Some (Posted h body resent moment (Taken dest seq)) → IsSome (position_at c es dest place)
taken_given c es place h body resent moment dest seq stands =
    let p : OutPos = record { date = h.imad.date; seq = seq } in
    is_some_at (position_at c es dest place) p
    (taken_at c es dest place h body resent moment dest seq stands ∙ ap (λ (b : Bool). if b then Some p else None) (bytes_pass dest dest refl))

-- those of a refused one
pub refused_sent : (c : Config) (es : List Entry) (place mark : ℕ) (h : Head) (body : List ℕ) (resent : Bool) (moment : ℕ) (why : Reject)
    → entry_at es place ≡ Some (Posted h body resent moment (Refused why))
    → frames_at c es place mark ≡ ack_to c es place mark h.imad.source ∷ []
refused_sent c es place mark h body resent moment why stands =
    let x : Entry = Posted h body resent moment (Refused why) in
    at_parts (λ (l : List Entry) (n : ℕ). entry_at l n ≡ Some x → frames_at c l n mark ≡ ack_to c l n mark h.imad.source ∷ []) es place x stands
    (λ newer older there.
    frames_between c newer x older mark ∙ refused_frames c older mark h body resent moment why
    ∙ ap (λ (f : Frame). f ∷ []) (ack_is c (newer ++ x ∷ older) (length older) mark h.imad.source _ x refl there))
    stands

-- the end of a cycle stands at a position of each endpoint that serves an account
end_if : (gets : Bool) (i : Item) → gets ≡ true → position_in (one_if gets i) ≡ Some i.at
end_if true i has = refl
end_if false i has = absurd cc

end_between : (c : Config) (newer older : List Entry) (moment date : ℕ) (e : List ℕ) → has_endpoint c.accounts e ≡ true
    → position_at c (newer ++ Roll moment date ∷ older) e (length older) ≡ Some (record { date = cycle c older; seq = sent_in_cycle c older e + 1 })
end_between c newer older moment date e has = given_between c newer (Roll moment date) older e ∙ end_if (has_endpoint c.accounts e) _ has

pub end_given : (c : Config) (es : List Entry) (place moment date : ℕ) (e : List ℕ) → entry_at es place ≡ Some (Roll moment date)
    → has_endpoint c.accounts e ≡ true → IsSome (position_at c es e place)
end_given c es place moment date e stands has =
    at_parts (λ (l : List Entry) (n : ℕ). IsSome (position_at c l e n)) es place (Roll moment date) stands
    (λ newer older. is_some_at _ _ (end_between c newer older moment date e has))

-- what is the same of each member
same_each : {A B : Type 0} (f g : A → B) (xs : List A) → ((x : A) → Contains xs x → f x ≡ g x) → map f xs ≡ map g xs
same_each f g [] same = refl
same_each f g (x ∷ xs) same = (λ k. same x (first_in x xs) k ∷ same_each f g xs (λ y there. same y (later_in x y xs there)) k)

-- the frames of a Roll
pub roll_sent : (c : Config) (es : List Entry) (place mark moment date : ℕ) → entry_at es place ≡ Some (Roll moment date)
    → frames_at c es place mark ≡ map (output_to c es place mark) (endpoints_of c.accounts)
roll_sent c es place mark moment date stands =
    let x : Entry = Roll moment date in
    at_parts (λ (l : List Entry) (n : ℕ). entry_at l n ≡ Some x → frames_at c l n mark ≡ map (output_to c l n mark) (endpoints_of c.accounts)) es place x stands
    (λ newer older there.
    frames_between c newer x older mark ∙ roll_frames c older mark moment date
    ∙ same_each (λ (e : List ℕ). output c e (record { at = record { date = cycle c older; seq = sent_in_cycle c older e + 1 }; place = length older; entry = x }) mark)
    (output_to c (newer ++ x ∷ older) (length older) mark) (endpoints_of c.accounts)
    (λ e member. output_is c (newer ++ x ∷ older) e (length older) mark _ x (end_between c newer older moment date e (served c.accounts e member)) there))
    stands

-- an entry of the calendar, with a mark of acknowledgements
module _ (c : Config) (es : List Entry) (place mark : ℕ) (x : Entry) (sound : IsConfig c) (lawful : Lawful c es) (timed : IsMoment (moment_of x))
    (marked : IsAckMark mark) (stands : entry_at es place ≡ Some x) where
  -- each output that it gives fits a frame
  pub outputs_fit : OutputsFit c es place mark
  outputs_fit =
      at_parts (λ (l : List Entry) (n : ℕ). Lawful c l → entry_at l n ≡ Some x → OutputsFit c l n mark) es place x stands
      (λ newer older own there e some.
      let l : List Entry = newer ++ x ∷ older in
      let front : List Entry = x ∷ older in
      let n : ℕ = length older in
      let same : position_at c l e n ≡ position_at c front e n = given_between c newer x older e ∙ sym (given_between c [] x older e) in
      let g : Gives c front e n = gives c front e n (subst (λ (o : Option OutPos). IsSome o) same some) in
      let here = position_is c front e n g in
      let payload : output_payload c l e n mark ≡ (output c e g.item mark).payload =
      ap (λ (o : Option Item). payload_of (option_map (λ i. output c e i mark) o))
      (item_is c l e n g.item.at x (same ∙ here) there ∙ sym (item_is c front e n g.item.at x here (at_newest x older)) ∙ g.found) in
      subst (λ (bytes : List ℕ). length bytes ≤ greatest_payload) (sym payload)
      (covered_fits c front (output c e g.item mark) sound (lawful_front c newer x older own) timed
      (inr (inl (record { line = e; item = g.item; there = g.there; mark = mark; marked = again marked; sent = refl })))).payload)
      lawful stands
    where
      again : IsAckMark mark → IsOutputMark mark
      again = ⊎_elim (λ (blank : mark ≡ 32). inl blank) (λ (resent : mark ≡ 80). inr (inl resent))

  -- so does its acknowledgement
  pub ack_fits : (f : Frame) → ack_of c mark x ≡ Some f → length (ack_payload c es place mark) ≤ greatest_payload
  ack_fits f acked =
      at_parts (λ (l : List Entry) (n : ℕ). Lawful c l → entry_at l n ≡ Some x → length (ack_payload c l n mark) ≤ greatest_payload) es place x stands
      (λ newer older own there.
      let sent : ack c (x ∷ older) (length older) mark ≡ Some f = ap (option_and_then (ack_of c mark)) (at_newest x older) ∙ acked in
      let payload : ack_payload c (newer ++ x ∷ older) (length older) mark ≡ f.payload = ap payload_of (ap (option_and_then (ack_of c mark)) there ∙ acked) in
      subst (λ (bytes : List ℕ). length bytes ≤ greatest_payload) (sym payload)
      (covered_fits c (x ∷ older) f sound (lawful_front c newer x older own) timed
      (inl (record { place = length older; mark = mark; marked = marked; sent = sent }))).payload)
      lawful stands
