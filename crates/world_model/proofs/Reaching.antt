-- Each act of a safe world is about what may happen in it: which frames reach the host and the banks.
use Rattle.std.proofs.Common.{◌≡◌, ◌⊎◌, ⊎_elim, refl, sym, subst, ap, ◌∙◌, ℕ, ◌≤◌, true, List, [], length, Option, Some, None, arith}
use Rattle.std.specs.Prelude.{bytes_eq}
use Rattle.std.specs.List.{Contains}
use Rattle.std.proofs.lemmas.List.{length-set}
use Rattle.faim_base.specs.Calendar.{date_text}
use Rattle.faim_base.specs.Limits.{longest_message}
use Rattle.faim_base.specs.Numbers.{IsMoment}
use Rattle.faim_base.specs.Ranges.{IsEndpoint}
use Rattle.faim_base.specs.Text.{is_text_byte}
use Rattle.faim_base.specs.declared.ids.OutPos.{OutPos}
use Rattle.faim_base.proofs.DateLemmas.{length-date_text}
use Rattle.faim_base.proofs.IdLemmas.{length-position_text}
use Rattle.link_frames.specs.declared.frame.FrameKind.{FrameKind}
use Rattle.link_frames.specs.Frames.{Content as Frame, IsFrame}
use Rattle.host_ledger.specs.Soundness.{operator}
use Rattle.faim_model.specs.Frames.{Covered}
use Rattle.faim_model.specs.Requests.{IsRetrieve}
use Rattle.faim_model.specs.Steps.{HostStep, host_step}
use Rattle.faim_model.specs.Submissions.{Numbered, submission, text_with}
use Rattle.faim_model.proofs.Drawn.{from_filter}
use Rattle.bank_books.specs.Drafts.{drafts}
use Rattle.bank_turns.specs.BankSteps.{BankStep, bank_step}
use Rattle.bank_turns.specs.Drafting.{retrieve}
use Rattle.bank_turns.proofs.KeptSteps.{drafts_keep, drafts_short}
use Rattle.bank_accord.specs.Accord.{IsTrusted, TrustedAs}
use Rattle.host_ledger.specs.declared.config.Config.{Config}
use Rattle.host_ledger.specs.declared.entries.Entry.{Entry}
use Rattle.world_events.specs.declared.acts.Act.{Act}
use Rattle.world_events.specs.declared.acts.Act.TheVariants.{Clock, Submit, Retrieve, Draft, Tick, Roll, Deliver, Restart}
use Rattle.world_events.specs.declared.acts.End.TheVariants.{Host, Bank}
use Rattle.world_model.specs.Worlds.{HasBank, World, opening_at}
use Rattle.world_model.specs.Effects.{AtBank, AtHost, Effect, Missing, ResumesBank, ResumesHost, Sets, at_bank, at_host, effect, numbered, on_line, sent_to, taken}
use Rattle.world_events.specs.Allowed.{IsAct}
use Rattle.world_model.specs.Safety.{IsSubmission, Safe}
use Rattle.world_model.proofs.DraftsPosted.{draft_posted}
use Rattle.world_model.proofs.HostLands.{MayReachHost}
use Rattle.world_model.proofs.Members.{account_endpoint, declared_in, numbered_was_sent, undeclared}

-- a step is the host's over a frame that may reach it
pub record IsHostStep (w : World) (step : HostStep) : Type 0 where
  pub frame : Frame
  pub reaches : MayReachHost w frame
  pub is : host_step w.config w.entries frame w.moment ≡ step

-- a step is that of a bank over a frame that it may trust
pub record IsBankStep (w : World) (e : List ℕ) (step : BankStep) : Type 0 where
  pub bank : HasBank w e
  pub frame : Frame
  pub trusted : IsTrusted w.config w.entries frame
  pub is : bank_step (opening_at w.config e) (w.books e) frame ≡ step

-- what may happen
abbrev pub MayHappen : World → Effect → Type 0
MayHappen w (Sets moment) = IsMoment moment
MayHappen w Missing = Unit {0}
MayHappen w (AtHost step) = IsHostStep w step
MayHappen w (AtBank e step) = IsBankStep w e step
MayHappen w ResumesHost = Unit {0}
MayHappen w (ResumesBank e) = Unit {0}

mark_is_text : (mark : ℕ) → (mark ≡ 32) ⊎ (mark ≡ 80) → is_text_byte mark ≡ true
mark_is_text mark marked =
    ⊎_elim (λ (blank : mark ≡ 32). ap is_text_byte blank) (λ (again : mark ≡ 80). ap is_text_byte again) marked

-- the operator's request
roll_is_frame : (date : ℕ) → IsFrame (on_line FrameKind.Roll operator (date_text date))
roll_is_frame date = record { endpoint = (refl, refl); payload = omega (arith, length-date_text date) }

covered_is_trusted : (c : Config) (es : List Entry) (f : Frame) → Covered c es f → IsTrusted c es f
covered_is_trusted c es f covered = by_kind f.kind
  where
    by_kind : (kind : FrameKind) → TrustedAs c es kind f
    by_kind FrameKind.Ack = covered
    by_kind FrameKind.Output = covered
    by_kind FrameKind.Submit = tt
    by_kind FrameKind.Retrieve = tt
    by_kind FrameKind.Roll = tt
    by_kind FrameKind.Draft = tt
    by_kind FrameKind.Tick = tt

module _ (w : World) (s : Safe w) where
  bank_line : (e : List ℕ) → HasBank w e → IsEndpoint e
  bank_line e bank = account_endpoint w.config.accounts e s.values.config.accounts.each (s.values.served e bank)

  -- a draft that a bank submits
  submission_reaches : (f : Frame) → HasBank w f.endpoint → IsSubmission (w.books f.endpoint) f → MayReachHost w f
  submission_reaches f bank is =
      let own : f.payload ≡ text_with is.mark is.draft.text = ap (λ (g : Frame). g.payload) is.sent in
      let kept = s.banks f.endpoint bank in
      let short : length is.draft.text ≤ longest_message = drafts_short (opening_at w.config f.endpoint) (w.books f.endpoint) is.draft kept is.there in
      let long : length f.payload ≡ length (text_with is.mark is.draft.text) = ap length own in
      record {
        sound = record { endpoint = bank_line f.endpoint bank; payload = omega (arith, long, length-set is.draft.text 17 is.mark, short) };
        posts = λ h body mark failed kind reads line has.
            let posted = draft_posted w.config.env is.draft.imad is.draft.text is.mark h body mark failed
            (drafts_keep (opening_at w.config f.endpoint) (w.books f.endpoint) is.draft kept is.there) (mark_is_text is.mark is.marked)
            (subst (λ (text : List ℕ). submission w.config.env text ≡ Numbered h body mark failed) own reads) in
            record {
              draft = is.draft;
              there = subst (λ (x : List ℕ). Contains (drafts (w.books x)) is.draft) (sym line) is.there;
              named = sym posted.0;
              is = sym posted.1;
            };
      }

  -- a frame that submits nothing
  other_reaches : (f : Frame) → IsFrame f → (f.kind ≡ FrameKind.Submit → ⊥) → MayReachHost w f
  other_reaches f sound other = record { sound = sound; posts = λ h body mark failed kind reads line has. absurd (other kind) }

  retrieval_reaches : (f : Frame) (at : OutPos) → IsEndpoint f.endpoint → IsRetrieve f at → MayReachHost w f
  retrieval_reaches f at line asks =
      let long : length f.payload ≡ 14 = ap length asks.payload ∙ length-position_text at in
      other_reaches f (record { endpoint = line; payload = omega (arith, long) })
      (λ kind. let both : FrameKind.Submit ≡ FrameKind.Retrieve = sym kind ∙ asks.kind in absurd cc)

  -- any frame that a bank sent
  from_bank_reaches : (f : Frame) → Contains w.to_host f → MayReachHost w f
  from_bank_reaches f there =
      let from = s.submits f there in
      ⊎_elim (λ (is : IsSubmission (w.books f.endpoint) f). submission_reaches f from.bank is)
      (λ (asks : (at : OutPos) × IsRetrieve f at). retrieval_reaches f asks.0 (bank_line f.endpoint from.bank) asks.1) from.is

  -- a text on a line without a bank
  bare_reaches : (line text : List ℕ) → IsEndpoint line → (HasBank w line → ⊥) → length text ≤ 8_192 → MayReachHost w (on_line FrameKind.Submit line text)
  bare_reaches line text endpoint bare short = record {
    sound = record { endpoint = endpoint; payload = short };
    posts = λ h body mark failed kind reads from has. absurd (bare (subst (HasBank w) from has));
  }

  host_takes : (f : Frame) → MayReachHost w f → MayHappen w (at_host w f)
  host_takes f reaches = record { frame = f; reaches = reaches; is = refl }

  bank_takes : (e : List ℕ) (f : Frame) → HasBank w e → IsTrusted w.config w.entries f → MayHappen w (at_bank w e f)
  bank_takes e f bank trusted = record { bank = bank; frame = f; trusted = trusted; is = refl }

  -- a delivery, of the frame with that number or of none
  delivery : (takes : Frame → Effect) (found : Option Frame) → ((f : Frame) → found ≡ Some f → MayHappen w (takes f)) → MayHappen w (taken takes found)
  delivery takes None may = tt
  delivery takes (Some f) may = may f refl

  pub act_may_happen : (act : Act) → IsAct w.banks act → MayHappen w (effect w act)
  act_may_happen (Clock moment) is = is
  act_may_happen (Submit line text) is = host_takes (on_line FrameKind.Submit line text) (bare_reaches line text is.0.named (undeclared w.banks line is.0.apart) is.1)
  act_may_happen (Retrieve line at) is =
      host_takes (retrieve line at) (retrieval_reaches (retrieve line at) at is.0.named (record { kind = refl; position = is.1; payload = refl }))
  act_may_happen (Roll date) is =
      host_takes (on_line FrameKind.Roll operator (date_text date))
      (other_reaches (on_line FrameKind.Roll operator (date_text date)) (roll_is_frame date) (λ kind. absurd cc))
  act_may_happen (Draft bank text) is = bank_takes bank (on_line FrameKind.Draft bank text) (declared_in w.banks bank is.0) tt
  act_may_happen (Tick bank) is = bank_takes bank (on_line FrameKind.Tick bank []) (declared_in w.banks bank is) tt
  act_may_happen (Deliver Host number) is =
      delivery (at_host w) (numbered w.to_host number) (λ f found. host_takes f (from_bank_reaches f (numbered_was_sent w.to_host number f found)))
  act_may_happen (Deliver (Bank e) number) is =
      delivery (at_bank w e) (numbered (sent_to e w.from_host) number)
      (λ f found. bank_takes e f (declared_in w.banks e is.0) (covered_is_trusted w.config w.entries f
      (s.covered f (from_filter (λ (g : Frame). bytes_eq g.endpoint e) w.from_host f (numbered_was_sent (sent_to e w.from_host) number f found)))))
  act_may_happen (Restart Host) is = tt
  act_may_happen (Restart (Bank e)) is = tt
