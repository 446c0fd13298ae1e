use Rattle.std.proofs.Common.{◌≡◌, ℕ, List, [], ◌∷◌, take, subst}
use Rattle.host_ledger.specs.declared.config.Config.{Config}
use Rattle.host_ledger.specs.declared.entries.Entry.{Entry}
use Rattle.faim_model.specs.Submissions.{Numbered, submission}
use Rattle.faim_model.specs.Lawful.{Lawful}
use Rattle.faim_model.specs.Turns.{adds_to, submitted}
use Rattle.world_text.specs.declared.script.Event.{Event}
use Rattle.world_text.specs.declared.script.Act.{Act}
use Rattle.world_text.specs.declared.script.Act.TheVariants.{Clock, Submit, Retrieve}
use Rattle.faim_top.specs.Promises.{Promises}
use Rattle.faim_top.specs.Replay.{act_turn, after_turn, entries_after, next_entries, next_reading, opening_moment}
use Rattle.faim_top.proofs.laws.promises_kept.Goals as goal

abbrev StayLawful : Type 0
StayLawful = (c : Config) (es : List Entry) (endpoint : List ℕ) (reading : ℕ) (text : List ℕ) → Lawful c es → Lawful c (adds_to (submitted c es endpoint reading text).adds es)

lawful_next : StayLawful → (c : Config) (es : List Entry) (reading : ℕ) (act : Act) → Lawful c es → Lawful c (after_turn (act_turn c es reading act) es)
lawful_next stay c es reading (Clock moment) lawful = lawful
lawful_next stay c es reading (Submit endpoint text) lawful = stay c es endpoint reading text lawful
lawful_next stay c es reading (Retrieve endpoint at) lawful = lawful

-- a run from a lawful list ends in one
lawful_after : StayLawful → (c : Config) (es : List Entry) (reading : ℕ) (events : List Event) → Lawful c es → Lawful c (entries_after c es reading events)
lawful_after stay c es reading [] lawful = lawful
lawful_after stay c es reading (ev ∷ events) lawful =
    lawful_after stay c (next_entries c es reading ev) (next_reading reading ev.act) events (lawful_next stay c es reading ev.act lawful)

pub returns : goal.returns
returns c = λ s sound.
    let promises : (es : List Entry) → Lawful s.config es → Promises s.config es = λ es lawful. record {
      lawful = lawful;
      once = c.posted_once.ensures s.config es lawful;
      conserved = c.money_is_conserved.ensures s.config es sound lawful;
      within_floors = λ a there. c.floors_are_kept.ensures s.config es a sound lawful there;
      numbers = c.numbered_in_order.ensures s.config es lawful;
      again = λ text reading r same.
          let P : List ℕ → Type 0 = λ b. submission s.config.env text ≡ Numbered r.own b r.mark r.failed in
          c.verdict_stands.ensures s.config es r.head r.body r.resent r.moment r.verdict reading text r.own r.mark r.failed lawful r.there (subst P same r.read) r.same;
      other = λ text reading r differs. c.other_text_is_turned.ensures s.config es r.head r.body r.resent r.moment r.verdict reading text r.own r.own_body r.mark r.failed lawful r.there r.read r.same differs;
    } in
    let lawful : (events : List Event) → Lawful s.config (entries_after s.config [] (opening_moment s.config) events) = λ events. lawful_after c.turns_stay_lawful.ensures s.config [] (opening_moment s.config) events tt in
    record {
      each = λ n. promises (entries_after s.config [] (opening_moment s.config) (take n s.events)) (lawful (take n s.events));
      whole = promises (entries_after s.config [] (opening_moment s.config) s.events) (lawful s.events);
    }
