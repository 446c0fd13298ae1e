-- A host's step, by what its parts say of the list that the host had before it.
use Rattle.std.proofs.Common.{◌≡◌, ℕ, Bool, true, false, List, refl, sym, ◌∙◌, ap, subst, Option, Some, None, Result}
use Rattle.std.specs.Prelude.{IsSome, IsTrue}
use Rattle.site_core.specs.Told.{Told}
use Rattle.faim_base.specs.Numbers.{IsMoment}
use Rattle.link_frames.specs.Frames.{Content as Frame}
use Rattle.host_ledger.specs.declared.config.Config.{Config}
use Rattle.host_ledger.specs.declared.entries.Entry.{Entry}
use Rattle.host_ledger.specs.Ranges.{IsEntry}
use Rattle.host_ledger.specs.Soundness.{IsConfig}
use Rattle.faim_model.specs.declared.decisions.HostOutcome.{HostOutcome}
use Rattle.faim_model.specs.Lawful.{Follows, moment_of}
use Rattle.faim_model.specs.Steps.{host_step}
use Rattle.faim_model.specs.Turns.{adds_to, effective}
use Rattle.host_core.specs.State.{State}
use Rattle.journaled_list.specs.Reading.{with_entry}
use Rattle.journaled_list.specs.Rules.{Listed}
use Rattle.journaled_steps.specs.declared.faults.StepFault.{StepFault}
use Rattle.journaled_steps.specs.Node.{Node}
use Rattle.journaled_steps.specs.Steps.{Step, HandlesAll, HasRoom, NodeAfter, StepCalls, StepSends}
use Rattle.journaled_steps.proofs.NothingDone.{node_at}
use Rattle.journaled_steps.proofs.PartsOfSteps as parts
use Rattle.host_node.specs.HostList.{host_rules, listed}
use Rattle.host_node.specs.Stepping.{HasNewest, step_of}

-- what is added, where something is, and where nothing is
some_of : (adds : Option Entry) → IsSome adds → (x : Entry) × (adds ≡ Some x)
some_of None some = absurd (let wrong : false ≡ true = some in cc)
some_of (Some x) some = (x, refl)

pub none_of : (adds : Option Entry) (added : Bool) → (IsSome adds → IsTrue added) → added ≡ false → adds ≡ None
none_of None added is off = refl
none_of (Some x) added is off = absurd (let wrong : true ≡ false = sym (is refl) ∙ off in cc)

-- a list with what was added
added_to : (s : State) (list : Listed Config Entry) (adds : Option Entry) (x : Entry) → s.config ≡ list.opening → s.entries ≡ adds_to adds list.entries → adds ≡ Some x → listed s ≡ with_entry list x
added_to s list adds x config entries is k = record {
  opening = config k;
  entries = (entries ∙ ap (λ a. adds_to a list.entries) is) k;
}

pub not_added : (s : State) (list : Listed Config Entry) (adds : Option Entry) → s.config ≡ list.opening → s.entries ≡ adds_to adds list.entries → adds ≡ None → listed s ≡ list
not_added s list adds config entries is k = record {
  opening = config k;
  entries = (entries ∙ ap (λ a. adds_to a list.entries) is) k;
}

-- the entry that a step adds, which has a spelling and may come next
pub newest_by : (s : State) (list : Listed Config Entry) (f : Frame) (reading : ℕ) → s.config ≡ list.opening → s.entries ≡ adds_to (step_of list f reading).adds list.entries
    → ((c : Config) (es : List Entry) (g : Frame) (r : ℕ) (x : Entry) → (host_step c es g r).adds ≡ Some x → Follows c es x)
    → ((c : Config) (es : List Entry) (g : Frame) (r : ℕ) (x : Entry) → (host_step c es g r).adds ≡ Some x → moment_of x ≡ effective es r)
    → ((c : Config) (older : List Entry) (x : Entry) → IsConfig c → Follows c older x → IsMoment (moment_of x) → IsEntry x)
    → IsConfig list.opening → (minutes : ℕ) → minutes ≡ effective list.entries reading → IsMoment minutes → IsSome (step_of list f reading).adds
    → (x : Entry) × ((step_of list f reading).adds ≡ Some x) × HasNewest s list x
newest_by s list f reading config entries follows moment spelled sound minutes at timed some =
    let added = some_of (step_of list f reading).adds some in
    let next : Follows list.opening list.entries added.0 = follows list.opening list.entries f reading added.0 added.1 in
    let now : IsMoment (moment_of added.0) = subst IsMoment (at ∙ sym (moment list.opening list.entries f reading added.0 added.1)) timed in (
      added.0,
      added.1,
      record {
        is = added_to s list (step_of list f reading).adds added.0 config entries added.1;
        follows = (spelled list.opening list.entries added.0 sound next now, next);
      },
    )

-- the node before the step, by its parts
module _ (f : Frame) (reading : ℕ) (list : Listed Config Entry) (last tail : ℕ) (live : Bool) (node : Node Config Entry) (view : node_at list last tail live ≡ node) (on : node.live ≡ true) where
  abbrev old : Node Config Entry
  old = node_at list last tail true

  was_live : live ≡ true
  was_live = ap (λ (n : Node Config Entry). n.live) view ∙ on

  same : old ≡ node
  same = ap (λ (b : Bool). node_at list last tail b) (sym was_live) ∙ view

  -- where it has a list that is the same
  pub still_same : (now : Listed Config Entry) → now ≡ list → node_at now last tail live ≡ old
  still_same now is k = node_at (is k) last tail (was_live k)

  abbrev step : Step Entry HostOutcome
  step = step_of list f reading

  module _ (adds : Option Entry) (frames : List (List ℕ)) (outcome : HostOutcome) (adding : step.adds ≡ adds) (sending : frames ≡ step.sends) (telling : outcome ≡ step.outcome) (result : Result HostOutcome StepFault) where
    pub handled_node : (after : Node Config Entry) → NodeAfter host_rules result (parts.step_of adds frames outcome) old after → NodeAfter host_rules result (step_of node.list f reading) node after
    handled_node after said =
        subst (λ (n : Node Config Entry). NodeAfter host_rules result (step_of n.list f reading) n after) same
        (parts.node_as step adds frames outcome adding sending telling host_rules result old after said)

    pub handled_room : HasRoom host_rules result adds tail → HasRoom host_rules result (step_of node.list f reading).adds node.tail
    handled_room room =
        subst (λ (n : Node Config Entry). HasRoom host_rules result (step_of n.list f reading).adds n.tail) same
        (parts.room_as step adds frames outcome adding sending telling host_rules result tail room)

    pub handled_calls : (a b : Told) → StepCalls host_rules adds frames tail result a b → StepCalls host_rules (step_of node.list f reading).adds (step_of node.list f reading).sends node.tail result a b
    handled_calls a b calls =
        subst (λ (n : Node Config Entry). StepCalls host_rules (step_of n.list f reading).adds (step_of n.list f reading).sends n.tail result a b) same
        (parts.calls_as step adds frames outcome adding sending telling host_rules result tail a b calls)

    pub handled_sent : (a b : Told) → StepSends frames result a b → StepSends (step_of node.list f reading).sends result a b
    handled_sent a b out =
        subst (λ (n : Node Config Entry). StepSends (step_of n.list f reading).sends result a b) same
        (parts.sends_as step adds frames outcome adding sending telling result a b out)

    pub handled_moments : (after : Node Config Entry) (a b : Told) → HandlesAll host_rules result (parts.step_of adds frames outcome) old after a b → HandlesAll host_rules result (step_of node.list f reading) node after a b
    handled_moments after a b all =
        subst (λ (n : Node Config Entry). HandlesAll host_rules result (step_of n.list f reading) n after a b) same
        (parts.moments_as step adds frames outcome adding sending telling host_rules result old after a b all)
