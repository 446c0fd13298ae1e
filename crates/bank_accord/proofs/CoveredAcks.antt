-- A covered acknowledgement that tells a bank a verdict tells it the host's.
use Rattle.std.proofs.Common.{◌≡◌, ⊎_elim, sym, ap, subst, ◌∙◌, ℕ, List, Some}
use Rattle.std.specs.List.{Contains}
use Rattle.faim_base.specs.declared.judgement.Verdict.{Verdict}
use Rattle.faim_message.specs.Decoded.{decoded}
use Rattle.faim_message.specs.Spelling.{Content, IsMessage}
use Rattle.link_frames.specs.declared.frame.FrameKind.{FrameKind}
use Rattle.link_frames.specs.Frames.{Content as Frame}
use Rattle.host_ledger.specs.declared.config.Config.{Config}
use Rattle.host_ledger.specs.declared.entries.Entry.{Entry}
use Rattle.host_ledger.specs.declared.entries.Entry.TheVariants.{Posted}
use Rattle.host_ledger.specs.Soundness.{IsConfig}
use Rattle.bank_books.specs.declared.entries.BankOpening.{BankOpening}
use Rattle.faim_model.specs.Lawful.{Lawful}
use Rattle.faim_model.specs.Acks.{turned_ack, verdict_ack}
use Rattle.faim_model.specs.Deliveries.{output_message}
use Rattle.faim_model.specs.Frames.{Covered, IsAck, IsOutput, IsTurned, framed}
use Rattle.faim_model.proofs.Covering.{ack_entry, ack_mark_text}
use Rattle.faim_model.proofs.Kept.{is_member}
use Rattle.faim_model.proofs.Written.{env_text, read_again, turned_ack_sound, verdict_ack_sound}
use Rattle.bank_turns.specs.AckTexts.{Told, ack_told, told_in}
use Rattle.bank_accord.specs.Accord.{HasVerdict}
use Rattle.bank_accord.proofs.AckVerdicts.{entry_told, turned_told}
use Rattle.bank_accord.proofs.HostRanges.{posted_fits}

-- the payload of a message in a frame is read as that message
pub reads_back : (kind : FrameKind) (e : List ℕ) (f : Frame) (m : Content) → IsMessage m → framed kind e m ≡ f → decoded m.form f.payload ≡ Some m
reads_back kind e f m is sent = ap (λ (g : Frame). decoded m.form g.payload) (sym sent) ∙ read_again m is

-- a frame has the kind that it was sent with
pub kind_sent : (kind : FrameKind) (e : List ℕ) (f : Frame) (m : Content) → framed kind e m ≡ f → f.kind ≡ kind
kind_sent kind e f m sent = ap (λ (g : Frame). g.kind) (sym sent)

module _ (c : Config) (es : List Entry) (o : BankOpening) (sound : IsConfig c) (lawful : Lawful c es) (f : Frame) (t : Told) where
  by_entry : IsAck c es f → ack_told o f.payload ≡ Some t → HasVerdict es t.imad t.verdict
  by_entry a told =
      let e = ack_entry c es a.place a.mark f a.sent in
      let there = is_member es a.place (Posted e.head e.body e.resent e.moment e.verdict) e.stands in
      let fits = posted_fits c es e.head e.body e.resent e.moment e.verdict sound lawful there in
      let m = verdict_ack c.env e.head e.moment e.verdict a.mark in
      let is : IsMessage m =
      verdict_ack_sound c.env e.head e.moment e.verdict a.mark (env_text c.env sound.env) (ack_mark_text a.mark a.marked) fits.imad.sender fits.verdict in
      let read = reads_back FrameKind.Ack e.head.imad.source f m is e.frame in
      let tells = entry_told o c.env e.head e.moment e.verdict a.mark t fits (sym (ap (told_in o) read) ∙ told) in
      record {
        head = e.head;
        body = e.body;
        resent = e.resent;
        moment = e.moment;
        there = subst (λ (v : Verdict). Contains es (Posted e.head e.body e.resent e.moment v)) (sym tells.verdict_is) there;
        named = sym tells.imad_is;
      }

  by_turned : IsTurned c f → ack_told o f.payload ≡ Some t → ⊥
  by_turned a told =
      let m = turned_ack c.env a.why a.imad a.moment in
      let is : IsMessage m = turned_ack_sound c.env a.why a.imad a.moment (env_text c.env sound.env) a.away a.imad_sound in
      turned_told o c.env a.why a.imad a.moment t a.away (sym (ap (told_in o) (reads_back FrameKind.Ack a.line f m is a.sent)) ∙ told)

  -- an output is no acknowledgement
  no_output : IsOutput c es f → f.kind ≡ FrameKind.Ack → ⊥
  no_output p is =
      let both : FrameKind.Output ≡ FrameKind.Ack =
      sym (kind_sent FrameKind.Output p.line f (output_message c.env p.line p.item p.mark) p.sent) ∙ is in absurd cc

  pub told_stands : Covered c es f → f.kind ≡ FrameKind.Ack → ack_told o f.payload ≡ Some t → HasVerdict es t.imad t.verdict
  told_stands covered is told =
      ⊎_elim (λ (a : IsAck c es f). by_entry a told)
      (λ more. ⊎_elim (λ (p : IsOutput c es f). absurd (no_output p is)) (λ (a : IsTurned c f). absurd (by_turned a told)) more) covered
