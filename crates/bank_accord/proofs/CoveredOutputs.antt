-- A covered output that a bank takes is one of the host's items to the bank's endpoint.
use Rattle.std.proofs.Common.{◌≡◌, ⊎_elim, refl, sym, ap, subst, ◌∙◌, ℕ, true, List, Some}
use Rattle.std.specs.List.{Contains}
use Rattle.faim_base.specs.Text.{is_text_byte}
use Rattle.faim_message.specs.Spelling.{IsMessage}
use Rattle.link_frames.specs.declared.frame.FrameKind.{FrameKind}
use Rattle.link_frames.specs.Frames.{Content as Frame}
use Rattle.host_ledger.specs.declared.config.Config.{Config}
use Rattle.host_ledger.specs.declared.entries.Entry.{Entry}
use Rattle.host_ledger.specs.declared.entries.Entry.TheVariants.{Posted, Roll}
use Rattle.host_ledger.specs.Soundness.{IsConfig}
use Rattle.bank_books.specs.declared.entries.BankOpening.{BankOpening}
use Rattle.faim_model.specs.Outputs.{Item, outputs}
use Rattle.faim_model.specs.Lawful.{Lawful}
use Rattle.faim_model.specs.Acks.{turned_ack, verdict_ack}
use Rattle.faim_model.specs.Deliveries.{output_message}
use Rattle.faim_model.specs.Frames.{Covered, IsAck, IsOutput, IsTurned}
use Rattle.faim_model.proofs.Covering.{ack_entry, output_mark_text}
use Rattle.faim_model.proofs.Ranged.{item_entry}
use Rattle.faim_model.proofs.Sound.{posted_sound}
use Rattle.faim_model.proofs.Written.{delivery_sound, end_sound, env_text, read_again}
use Rattle.bank_turns.specs.OutputTexts.{Given, given_in, output_given}
use Rattle.bank_accord.specs.Accord.{output_text}
use Rattle.bank_accord.proofs.CoveredAcks.{kind_sent, reads_back}
use Rattle.bank_accord.proofs.HostRanges.{each_given, given_line}
use Rattle.bank_accord.proofs.ItemsGiven.{ShowsItem, item_given}

module _ (c : Config) (es : List Entry) (sound : IsConfig c) (lawful : Lawful c es) where
  -- an item's message is one
  message_sound : (e : List ℕ) (i : Item) (x : Entry) (mark : ℕ) → Contains (outputs c es e) i → Contains es x → is_text_byte mark ≡ true
      → IsMessage (output_message c.env e (record i { entry = x }) mark)
  message_sound e i (Roll moment date) mark there stands text =
      end_sound c.env mark moment date i.at e (env_text c.env sound.env) text (given_line c e i sound (each_given c es e i sound lawful there))
  message_sound e i (Posted h body resent moment v) mark there stands text =
      let m = posted_sound c es h body resent moment v lawful stands in
      delivery_sound c.env mark e i.at i.place h body resent moment v m.0 (env_text c.env sound.env) text
      (given_line c e i sound (each_given c es e i sound lawful there)) m.1 m.2

  item_sound : (e : List ℕ) (i : Item) (mark : ℕ) → Contains (outputs c es e) i → is_text_byte mark ≡ true → IsMessage (output_message c.env e i mark)
  item_sound e i mark there text = message_sound e i i.entry mark there (item_entry c es e i there) text

  -- the text of an item gives a bank that item, if anything
  pub text_given : (o : BankOpening) (e : List ℕ) (i : Item) (g : Given) → Contains (outputs c es e) i
      → output_given o (output_text c e i) ≡ Some g → ShowsItem c e i g
  text_given o e i g there gives =
      let m = output_message c.env e i 32 in
      let read = read_again m (item_sound e i 32 there refl) in
      item_given c e i 32 o g sound (each_given c es e i sound lawful there) (sym (ap (given_in o) read) ∙ gives)

  -- an item of an endpoint that is shown
  pub record ShowsOne (e : List ℕ) (g : Given) : Type 0 where
    pub item : Item
    pub there : Contains (outputs c es e) item
    pub shows : ShowsItem c e item g

  by_output : (o : BankOpening) (f : Frame) (g : Given) → IsOutput c es f → output_given o f.payload ≡ Some g → ShowsOne f.endpoint g
  by_output o f g p gives =
      let m = output_message c.env p.line p.item p.mark in
      let read = reads_back FrameKind.Output p.line f m (item_sound p.line p.item p.mark p.there (output_mark_text p.mark p.marked)) p.sent in
      let own : ShowsOne p.line g = record {
        item = p.item;
        there = p.there;
        shows = item_given c p.line p.item p.mark o g sound (each_given c es p.line p.item sound lawful p.there) (sym (ap (given_in o) read) ∙ gives);
      } in
      let line : p.line ≡ f.endpoint = ap (λ (h : Frame). h.endpoint) p.sent in
      subst (λ (e : List ℕ). ShowsOne e g) line own

  -- a covered output shows an item of the endpoint that it goes to; an acknowledgement is no output
  pub given_stands : (o : BankOpening) (f : Frame) (g : Given) → Covered c es f → f.kind ≡ FrameKind.Output
      → output_given o f.payload ≡ Some g → ShowsOne f.endpoint g
  given_stands o f g covered is gives =
      ⊎_elim by_entry (λ more. ⊎_elim (λ (p : IsOutput c es f). by_output o f g p gives) by_turned more) covered
    where
      no_ack : f.kind ≡ FrameKind.Ack → ShowsOne f.endpoint g
      no_ack ack = let both : FrameKind.Ack ≡ FrameKind.Output = sym ack ∙ is in absurd cc

      by_entry : IsAck c es f → ShowsOne f.endpoint g
      by_entry a =
          let e = ack_entry c es a.place a.mark f a.sent in
          no_ack (kind_sent FrameKind.Ack e.head.imad.source f (verdict_ack c.env e.head e.moment e.verdict a.mark) e.frame)

      by_turned : IsTurned c f → ShowsOne f.endpoint g
      by_turned t = no_ack (kind_sent FrameKind.Ack t.line f (turned_ack c.env t.why t.imad t.moment) t.sent)
