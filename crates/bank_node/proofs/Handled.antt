-- A bank's step, by what was prepared of it.
use Rattle.std.proofs.Common.{◌≡◌, ℕ, List, [], map, refl, sym, ◌∙◌, ap, Option, Some, None, Result, Ok, Err}
use Rattle.std.specs.Prelude.{OnOk}
use Rattle.link_frames.specs.Frames.{Content as Frame, frame_bytes}
use Rattle.bank_books.specs.declared.entries.BankEntry.{BankEntry}
use Rattle.bank_books.specs.declared.entries.BankOpening.{BankOpening}
use Rattle.bank_books.specs.declared.outcomes.AckCase.{AckCase}
use Rattle.bank_books.specs.Drafts.{ack_case}
use Rattle.bank_turns.specs.AckTexts.{Told}
use Rattle.bank_turns.specs.BankSteps.{BankStep, ack_step, answered_by, bank_step}
use Rattle.journaled_steps.specs.Node.{Node}
use Rattle.bank_node.specs.declared.preparing.Prepared.{Prepared}
use Rattle.bank_node.specs.Preparing.{told}
use Rattle.bank_node.specs.Stepping.{step_of}

-- an acknowledgement sends nothing
quiet_by : (t : Told) (case : AckCase) → (answered_by t case).sends ≡ []
quiet_by t AckCase.Fresh = refl
quiet_by t AckCase.Repeated = refl
quiet_by t AckCase.Strange = refl

pub quiet_ack : (es : List BankEntry) (t : Option Told) → (ack_step es t).sends ≡ []
quiet_ack es None = refl
quiet_ack es (Some t) = quiet_by t (ack_case es t.imad)

pub on_ok : {T E : Type 0} (r : Result T E) (P : Type 0) → P → OnOk r P
on_ok (Ok x) P p = p
on_ok (Err e) P p = tt

-- what was prepared over the list of a node, as contracts see it
module _ (f : Frame) (inside node : Node BankOpening BankEntry) (view : inside ≡ node) (p : Prepared) (is : p ≡ told (bank_step inside.list.opening inside.list.entries f)) where
  pub adding : (entry : Option BankEntry) → p.entry ≡ entry → (step_of node.list f).adds ≡ entry
  adding entry are = ap (λ (n : Node BankOpening BankEntry). (step_of n.list f).adds) (sym view) ∙ ap (λ (q : Prepared). q.entry) (sym is) ∙ are

  pub sending : (frames : List (List ℕ)) → frames ≡ map frame_bytes (bank_step inside.list.opening inside.list.entries f).sends → frames ≡ (step_of node.list f).sends
  sending frames are = are ∙ ap (λ (n : Node BankOpening BankEntry). (step_of n.list f).sends) view

  pub telling : p.outcome ≡ (step_of node.list f).outcome
  telling = ap (λ (q : Prepared). q.outcome) is ∙ ap (λ (n : Node BankOpening BankEntry). (step_of n.list f).outcome) view
