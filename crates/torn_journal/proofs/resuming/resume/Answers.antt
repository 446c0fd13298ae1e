use Rattle.std.proofs.Common.{◌≡◌, ◌+◌, ◌<◌, ◌++◌, ◌∷◌, [], true, List, ℕ, Ok, Err, length, drop, refl, sym, ap, ◌∙◌, subst, arith, rules}
use Rattle.std.specs.Prelude.{IsTrue}
use Rattle.std.proofs.lemmas.List.Elements.{All-nil, All-push}
use Rattle.site_core.specs.Log.{reads}
use Rattle.site_core.specs.Told.{Told}
use Rattle.site_core.proofs.Runs.{goes_as, goes_on}
use Rattle.torn_journal.specs.declared.faults.ResumeFault.TheVariants.{Damaged}
use Rattle.torn_journal.specs.declared.reading.Next.{Next}
use Rattle.torn_journal.specs.declared.visit.VisitFault.TheVariants as visit_faults
use Rattle.torn_journal.specs.Damage.{IsDamaged}
use Rattle.torn_journal.specs.Journal.{gate_of, IsPayload, IsJournal}
use Rattle.torn_journal.specs.Limits.{greatest_tail}
use Rattle.torn_journal.specs.Reading.{Looks, NextIs}
use Rattle.torn_journal.specs.Resume.{no_fault}
use Rattle.torn_journal.proofs.Fronts.{all_follow-push, all_but_last-push}
use Rattle.torn_journal.proofs.AnswersFitImages.{fits}
use Rattle.torn_journal.proofs.NothingChanged.{looked}
use Rattle.torn_journal.proofs.RecordsRead.{at_first, known, looked_on, looked_so_far, tail_here, damage_here, refused_here, far_here, reached_more, place_after, no_fault_on}
use Rattle.torn_journal.proofs.resuming.resume.Goals as goal

pub loop-place-init : goal.loop-place-init
loop-place-init g c =
    let there : IsTrue c.in_ok-opens.field-0 = search rules in
    record {
      reached = record {
        payloads = [];
        stood = c.requires;
        each = All-nil IsPayload;
        followed = tt;
        at = refl;
        near = omega arith;
        told = goes_as _ _ (g.S.Site.told c.args.site.now) (g.S.Site.told c.opens.new.site) (λ x y p. (p.0, at_first (reads x.log) (p.1.0 there))) c.in_ok-opens.ensures.told;
      };
      disk = c.in_ok-opens.ensures.cause.kept;
      line = c.in_ok-opens.ensures.line;
    }

pub returns-then-not-branch-clause-told : goal.returns-then-not-branch-clause-told
returns-then-not-branch-clause-told g c =
    goes_as _ _ (g.S.Site.told c.args.site.now) (g.S.Site.told c.opens.new.site) (λ x y p. looked true 1 x y p.0 (λ ps journal. omega arith)) c.in_ok-opens.ensures.told

pub returns-in_err-next_at-clause-told : goal.returns-in_err-next_at-clause-told
returns-in_err-next_at-clause-told g c =
    let r = c.loop-place.invariant.reached in
    goes_on _ _ _ _ _ _
    (λ x y z p q. looked_on r.payloads c.loop-place.place r.at r.each x y z p (no_fault c.from_residual-in_err-next_at.result)
    (subst (λ w. Looks w 2 y z) (no_fault_on Next c.in_err-next_at.field-0.0 c.from_residual-in_err-next_at.result c.from_residual-in_err-next_at.ensures.1) q.0))
    r.told c.in_err-next_at.ensures.told

pub returns-in-Tail-clause-says : goal.returns-in-Tail-clause-says
returns-in-Tail-clause-says g c =
    let r = c.loop-place.invariant.reached in
    record {
      payloads = r.payloads;
      stood = r.stood;
      each = r.each;
      followed = r.followed;
      place = omega (arith, r.at);
      small = omega (arith, c.loop-place-test.true);
      image = known (λ (site : Told). IsJournal (reads site.log) r.payloads) (λ x z. IsJournal (reads x.log) r.payloads) _ _ (λ x z j. j)
          (goes_on _ _ (λ x z. IsJournal (reads x.log) r.payloads) _ _ _
          (λ x y z p q. tail_here r.payloads c.loop-place.place r.at r.each x y z p c.next_at.new.buffer.items c.loop-place-test.true (subst (NextIs (drop c.loop-place.place (reads y.log)) c.next_at.new.buffer.items) c.in-Tail.is q.1))
          r.told c.in_ok-next_at.ensures.told);
    }

pub returns-in-Tail-clause-image : goal.returns-in-Tail-clause-image
returns-in-Tail-clause-image g c = fits g.V.Visit.follows (g.V.Visit.stands c.loop-place.visit) (g.S.Site.told c.args.site.now) (Ok (c.loop-place.place + 1)) (returns-in-Tail-clause-says g c)

pub returns-in-Tail-clause-told : goal.returns-in-Tail-clause-told
returns-in-Tail-clause-told g c =
    let r = c.loop-place.invariant.reached in
    goes_on _ _ _ _ _ _ (λ x y z p q. looked_on r.payloads c.loop-place.place r.at r.each x y z p true q.0) r.told c.in_ok-next_at.ensures.told

pub returns-in-Damage-clause-says : goal.returns-in-Damage-clause-says
returns-in-Damage-clause-says g c =
    let r = c.loop-place.invariant.reached in
    known (λ (site : Told). IsDamaged g.V.Visit.follows (reads site.log) c.loop-place.place) (λ x z. IsDamaged g.V.Visit.follows (reads x.log) c.loop-place.place) _ _ (λ x z d. d)
    (goes_on _ _ (λ x z. IsDamaged g.V.Visit.follows (reads x.log) c.loop-place.place) _ _ _
    (λ x y z p q. damage_here r.payloads c.loop-place.place r.at r.each x y z p g.V.Visit.follows r.followed r.near c.next_at.new.buffer.items (subst (NextIs (drop c.loop-place.place (reads y.log)) c.next_at.new.buffer.items) c.in-Damage.is q.1))
    r.told c.in_ok-next_at.ensures.told)

pub returns-in-Damage-clause-image : goal.returns-in-Damage-clause-image
returns-in-Damage-clause-image g c = fits g.V.Visit.follows (g.V.Visit.stands c.loop-place.visit) (g.S.Site.told c.args.site.now) (Err (Damaged c.loop-place.place)) (returns-in-Damage-clause-says g c)

pub returns-in-Damage-clause-told : goal.returns-in-Damage-clause-told
returns-in-Damage-clause-told g c =
    let r = c.loop-place.invariant.reached in
    goes_on _ _ _ _ _ _ (λ x y z p q. looked_on r.payloads c.loop-place.place r.at r.each x y z p true q.0) r.told c.in_ok-next_at.ensures.told

pub returns-in-Err-Bad-clause-says : goal.returns-in-Err-Bad-clause-says
returns-in-Err-Bad-clause-says g c =
    let r = c.loop-place.invariant.reached in
    let bad : c.take.result ≡ Err visit_faults.Bad = cc in
    let refused = subst (λ (l : List ℕ). g.V.Visit.follows r.payloads l → ⊥) c.deref.ensures.value (c.take.ensures.bad bad r.payloads r.stood) in
    known (λ (site : Told). IsDamaged g.V.Visit.follows (reads site.log) c.loop-place.place) (λ x z. IsDamaged g.V.Visit.follows (reads x.log) c.loop-place.place) _ _ (λ x z d. d)
    (goes_on _ _ (λ x z. IsDamaged g.V.Visit.follows (reads x.log) c.loop-place.place) _ _ _
    (λ x y z p q. refused_here r.payloads c.loop-place.place r.at r.each x y z p g.V.Visit.follows r.followed r.near c.next_at.new.buffer.items c.in-Payload.field-0 (subst (NextIs (drop c.loop-place.place (reads y.log)) c.next_at.new.buffer.items) c.in-Payload.is q.1) (c.in_ok-next_at.ensures.payload c.in-Payload.field-0 c.in-Payload.is) refused)
    r.told c.in_ok-next_at.ensures.told)

pub returns-in-Err-Bad-clause-image : goal.returns-in-Err-Bad-clause-image
returns-in-Err-Bad-clause-image g c = fits g.V.Visit.follows (g.V.Visit.stands c.take.new.self) (g.S.Site.told c.args.site.now) (Err (Damaged c.loop-place.place)) (returns-in-Err-Bad-clause-says g c)

pub returns-in-Err-Bad-clause-told : goal.returns-in-Err-Bad-clause-told
returns-in-Err-Bad-clause-told g c =
    let r = c.loop-place.invariant.reached in
    goes_on _ _ _ _ _ _ (λ x y z p q. looked_on r.payloads c.loop-place.place r.at r.each x y z p true q.0) r.told c.in_ok-next_at.ensures.told

pub returns-in-Err-NoMemory-clause-told : goal.returns-in-Err-NoMemory-clause-told
returns-in-Err-NoMemory-clause-told g c =
    let r = c.loop-place.invariant.reached in
    goes_on _ _ _ _ _ _ (λ x y z p q. looked_on r.payloads c.loop-place.place r.at r.each x y z p true q.0) r.told c.in_ok-next_at.ensures.told

pub loop-place-preserved : goal.loop-place-preserved
loop-place-preserved g c =
    let r = c.loop-place.invariant.reached in
    let buffer = c.next_at.new.buffer.items in
    let taken = c.in-Ok.ensures.ok r.payloads r.stood in
    let follows = subst (λ (l : List ℕ). g.V.Visit.follows r.payloads l) c.deref.ensures.value taken.0 in
    let stood = subst (λ (l : List ℕ). g.V.Visit.stands c.take.new.self (r.payloads ++ l ∷ [])) c.deref.ensures.value taken.1 in
    record {
      reached = record {
        payloads = r.payloads ++ buffer ∷ [];
        stood = stood;
        each = All-push IsPayload r.payloads buffer r.each (c.in_ok-next_at.ensures.payload c.in-Payload.field-0 c.in-Payload.is);
        followed = all_follow-push g.V.Visit.follows r.payloads buffer r.followed follows;
        at = place_after r.payloads buffer c.loop-place.place c.len.result r.at (omega (arith, c.len.ensures, c.deref.ensures.len, ap length c.deref.ensures.value));
        near = subst (λ (l : List (List ℕ)). gate_of l < greatest_tail) (sym (all_but_last-push r.payloads buffer)) (omega (arith, r.at, c.loop-place-test.true));
        told = goes_on _ _ _ _ _ _
            (λ x y z p q. reached_more r.payloads c.loop-place.place r.at r.each x y z p buffer c.in-Payload.field-0 q.0 (subst (NextIs (drop c.loop-place.place (reads y.log)) buffer) c.in-Payload.is q.1))
            r.told c.in_ok-next_at.ensures.told;
      };
      disk = c.in_ok-next_at.ensures.faults ∙ c.loop-place.invariant.disk;
      line = c.in_ok-next_at.ensures.line ∙ c.loop-place.invariant.line;
    }

pub returns-clause-says : goal.returns-clause-says
returns-clause-says g c =
    let r = c.loop-place.invariant.reached in
    known (λ (site : Told). IsDamaged g.V.Visit.follows (reads site.log) c.loop-place.place) (λ x z. IsDamaged g.V.Visit.follows (reads x.log) c.loop-place.place) _ _ (λ x z d. d)
    (goes_as _ (λ x z. IsDamaged g.V.Visit.follows (reads x.log) c.loop-place.place) _ _
    (λ x y p. far_here r.payloads c.loop-place.place r.at r.each x y y p g.V.Visit.follows r.followed r.near (omega (arith, c.loop-place-test.false)))
    r.told)

pub returns-clause-image : goal.returns-clause-image
returns-clause-image g c = fits g.V.Visit.follows (g.V.Visit.stands c.loop-place.visit) (g.S.Site.told c.args.site.now) (Err (Damaged c.loop-place.place)) (returns-clause-says g c)

pub returns-clause-told : goal.returns-clause-told
returns-clause-told g c =
    let r = c.loop-place.invariant.reached in
    goes_as _ _ _ _ (λ x y p. looked_so_far r.payloads c.loop-place.place r.at r.each x y y p) r.told
