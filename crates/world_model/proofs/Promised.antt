-- What a safe world promises of the frames that its host ever sent.
use Rattle.std.proofs.Common.{◌≡◌, ⊎_elim, inl, inr, ap, ◌∙◌}
use Rattle.std.specs.Prelude.{Ok}
use Rattle.faim_base.specs.declared.judgement.Verdict.{Verdict}
use Rattle.faim_message.specs.Spelling.{Content}
use Rattle.link_frames.specs.declared.frame.FrameKind.{FrameKind}
use Rattle.link_frames.specs.Frames.{Content as Frame}
use Rattle.host_ledger.specs.declared.entries.Entry.TheVariants.{Posted}
use Rattle.faim_model.specs.Readings.{Acknowledges, imad_in}
use Rattle.faim_model.proofs.Outside.{acks_read, either_kind, one_entry, output_is_given, outputs_read, told_is_kept}
use Rattle.faim_model.proofs.Ranged.{each_ranged}
use Rattle.faim_model.proofs.Telling.{tells_imad}
use Rattle.world_model.specs.Worlds.{World}
use Rattle.world_model.specs.Safety.{Safe}
use Rattle.world_model.specs.Promises.{KeepsAcks, SendsMessages, SendsOutputs, TellsOneVerdict}

module _ (w : World) (s : Safe w) where
  pub keeps_acks : KeepsAcks w
  keeps_acks f m v ack =
      told_is_kept w.config w.entries s.values.config s.lawful s.values.newest f m v (s.covered f ack.sent) ack.kind ack.read ack.tells

  pub sends_messages : SendsMessages w
  sends_messages f there =
      let covered = s.covered f there in
      ⊎_elim (λ (ack : f.kind ≡ FrameKind.Ack). inl (ack, acks_read w.config w.entries s.values.config s.lawful s.values.newest f covered ack))
      (λ (put_out : f.kind ≡ FrameKind.Output). inr (put_out, outputs_read w.config w.entries s.values.config s.lawful s.values.newest f covered put_out))
      (either_kind w.config w.entries f covered)

  -- an acknowledgement names the identifier of the entry that it tells of
  names : (f : Frame) (m : Content) (v : Verdict) → (a : Acknowledges w.config w.entries v f m) → imad_in m ≡ Ok a.head.imad
  names f m v a =
      let ranged = each_ranged w.config w.entries (Posted a.head a.body a.resent a.moment v) s.values.config s.lawful s.values.newest a.there in
      ap imad_in a.message ∙ tells_imad w.config.env a.head a.moment v a.mark ranged.0.imad

  pub tells_one_verdict : TellsOneVerdict w
  tells_one_verdict f g m other v u ack again same =
      let a = keeps_acks f m v ack in
      let b = keeps_acks g other u again in
      let first = names f m v a in
      let second = names g other u b in
      let imads : a.head.imad ≡ b.head.imad = cc in
      let entries = one_entry w.config w.entries a.head a.body a.resent a.moment v b.head b.body b.resent b.moment u s.lawful a.there b.there imads in
      cc

  pub sends_outputs : SendsOutputs w
  sends_outputs f there kind =
      let covered = s.covered f there in
      let read = outputs_read w.config w.entries s.values.config s.lawful s.values.newest f covered kind in
      let given = output_is_given w.config w.entries s.values.config s.lawful s.values.newest f read.0 covered kind read.1 in
      (read.0, given.0, read.1, given.1, given.2, given.3)
