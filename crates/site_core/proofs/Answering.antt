-- What one call of a site in memory says of what it tells.
use Rattle.std.proofs.Common.{◌≡◌, ◌⊎◌, inl, inr, ⊎_elim, ◌+◌, ◌-◌, ◌^◌, ◌<◌, ◌≤◌, min, true, List, [], ◌∷◌, ◌++◌, length, refl, sym, ◌∙◌, ap, subst, Err, arith, length-append}
use Rattle.std.specs.Prelude.{◌↔◌, IsTrue}
use Rattle.site_core.specs.Counts.{Rose}
use Rattle.site_core.specs.declared.counts.Counts.{Counts}
use Rattle.site_core.specs.declared.counts.Faults.{Faults}
use Rattle.site_core.specs.declared.counts.Turn.{Turn}
use Rattle.site_core.specs.declared.counts.Turn.TheVariants.{Goes, Stops, Fails}
use Rattle.site_core.specs.Log.{Act, okays}
use Rattle.site_core.specs.Told.{Told, Part, other, unarmed, Counted, HasOneReason, FailsUnarmed, CallsOnce}
use Rattle.site_core.specs.Told.Part.{Disk, Line}
use Rattle.site_core.specs.Turns.{told_of, Begins}
use Rattle.site_core.proofs.Runs.{unreached_by_none}

-- the faults of the disk, and of the line, by those of the part that is called and of the other
abbrev pub disk_of : Part → Faults → Faults → Faults
disk_of Disk mine others = mine
disk_of Line mine others = others

abbrev pub line_of : Part → Faults → Faults → Faults
line_of Disk mine others = others
line_of Line mine others = mine

abbrev pub told_at : Part → List Act → Counts → Faults → Faults → Told
told_at part log counts mine others = told_of log counts (disk_of part mine others) (line_of part mine others)

mine_is : (part : Part) (log : List Act) (counts : Counts) (mine others : Faults) → unarmed part (told_at part log counts mine others) ≡ mine.unarmed
mine_is Disk log counts mine others = refl
mine_is Line log counts mine others = refl

others_is : (part : Part) (log : List Act) (counts : Counts) (mine others : Faults) → unarmed (other part) (told_at part log counts mine others) ≡ others.unarmed
others_is Disk log counts mine others = refl
others_is Line log counts mine others = refl

disk_later : (part : Part) (faults more others : Faults) → faults.unarmed ≤ more.unarmed → (disk_of part faults others).unarmed ≤ (disk_of part more others).unarmed
disk_later Disk faults more others later = later
disk_later Line faults more others later = omega arith

line_later : (part : Part) (faults more others : Faults) → faults.unarmed ≤ more.unarmed → (line_of part faults others).unarmed ≤ (line_of part more others).unarmed
line_later Disk faults more others later = omega arith
line_later Line faults more others later = later

-- the numbers of a call from its beginning to its end
pub record Moved (counts last : Counts) (faults more : Faults) : Type 0 where
  pub once : last.made ≡ min (counts.made + 1) (2 ^ 64 - 1)
  pub kept : counts.made ≤ last.made
  pub armed : last.armed ≡ counts.armed - (last.made - counts.made)
  pub stops : last.stops + min 1 last.armed ≡ counts.stops + min 1 counts.armed
  pub stopped : IsTrue last.stopped ↔ (IsTrue counts.stopped ⊎ (counts.stops < last.stops))
  pub lacks : counts.lacks ≤ last.lacks
  pub unarmed : faults.unarmed ≤ more.unarmed

module _ (part : Part) (counts last : Counts) (faults more others : Faults) (acts log : List Act) where
  counted_at : Moved counts last faults more → length acts + counts.made ≤ last.made → Counted (told_at part log counts faults others) (told_at part (acts ++ log) last more others)
  counted_at moved few = record {
    calls = moved.kept;
    traced = omega (arith, few, length-append acts log);
    armed = moved.armed;
    stops = moved.stops;
    stopped = moved.stopped;
    lacks = moved.lacks;
    unarmed_disk = disk_later part faults more others moved.unarmed;
    unarmed_line = line_later part faults more others moved.unarmed;
  }

  unarmed_same : more.unarmed ≡ faults.unarmed → unarmed part (told_at part (acts ++ log) last more others) ≡ unarmed part (told_at part log counts faults others)
  unarmed_same same = mine_is part (acts ++ log) last more others ∙ same ∙ sym (mine_is part log counts faults others)

  unarmed_rose : Rose faults.unarmed more.unarmed → Rose (unarmed part (told_at part log counts faults others)) (unarmed part (told_at part (acts ++ log) last more others))
  unarmed_rose rose = omega (arith, rose, mine_is part (acts ++ log) last more others, mine_is part log counts faults others)

  others_same : unarmed (other part) (told_at part (acts ++ log) last more others) ≡ unarmed (other part) (told_at part log counts faults others)
  others_same = others_is part (acts ++ log) last more others ∙ sym (others_is part log counts faults others)

module _ (T : Type 0) {E : Type 0} (e : E) (P : List Act → Type 0) (part : Part) (counts last : Counts) (faults more others : Faults) (acts log : List Act) (moved : Moved counts last faults more) where
  no_act : (xs : List Act) → length xs + counts.made ≤ last.made → counts.made ≡ 2 ^ 64 - 1 → xs ++ log ≡ log
  no_act [] le end = refl
  no_act (x ∷ xs) le end = absurd (omega (arith, le, end, moved.once))

  -- a call that failed, for a reason
  failing : last.failed ≡ true → length acts + counts.made ≤ last.made → okays acts ≡ 0 → P acts
      → HasOneReason part (told_at part log counts faults others) (told_at part (acts ++ log) last more others)
      → (counts.made ≡ 2 ^ 64 - 1 → FailsUnarmed part (told_at part log counts faults others) (told_at part (acts ++ log) last more others))
      → CallsOnce {T = T} part (Err e) P (told_at part log counts faults others) (told_at part (acts ++ log) last more others)
  failing failed few none are reason full = record {
    ran = record {
      acts = acts;
      grew = refl;
      are = are;
      counted = counted_at part counts last faults more others acts log moved few;
      unreached = unreached_by_none counts.armed (okays acts) none;
      ended = (failed, omega (arith, moved.once, none));
    };
    once = moved.once;
    running = tt;
    reason = reason;
    kept = others_same part counts last faults more others acts log;
    full = λ end. (no_act acts few end, full end);
  }

module _ (part : Part) (counts now : Counts) (faults more others : Faults) (log : List Act) where
  moved_on : (turn : Turn) → Begins turn counts now faults more → Moved counts now faults more
  moved_on turn begins = record {
    once = begins.once;
    kept = begins.kept;
    armed = begins.armed;
    stops = begins.stops;
    stopped = begins.stopped;
    lacks = omega (arith, begins.lacks);
    unarmed = begins.unarmed;
  }

  module _ (T : Type 0) {E : Type 0} (e : E) (P : List Act → Type 0) where
    -- a stop was reached, and the call may have left an act
    pub cut_short : Begins Stops counts now faults more → (acts : List Act) → length acts ≤ 1 → okays acts ≡ 0 → P acts → (after : List Act) → after ≡ acts ++ log → CallsOnce {T = T} part (Err e) P (told_at part log counts faults others) (told_at part after now more others)
    cut_short begins acts few none are after grew =
        subst (λ (l : List Act). CallsOnce {T = T} part (Err e) P (told_at part log counts faults others) (told_at part l now more others)) (sym grew)
        (failing T e P part counts now faults more others acts log (moved_on Stops begins) begins.out.0 (omega (arith, few, begins.out.1)) none are
        (inl (inr (inl (begins.out.3, begins.out.2, inl begins.lacks, unarmed_same part counts now faults more others acts log begins.out.5))))
        (λ end. absurd (omega (arith, end, begins.out.1, begins.once))))

    -- the call was turned away
    pub turned_away : Begins Fails counts now faults more → P [] → CallsOnce {T = T} part (Err e) P (told_at part log counts faults others) (told_at part log now more others)
    turned_away begins are =
        failing T e P part counts now faults more others [] log (moved_on Fails begins) begins.out.0 (omega (arith, begins.kept)) refl are
        (⊎_elim
        (λ before. inl (inl (before.0, begins.out.1, begins.lacks, unarmed_same part counts now faults more others [] log before.2)))
        (λ listed. inr (listed.0, begins.out.1, begins.lacks, unarmed_rose part counts now faults more others [] log listed.1))
        begins.out.3)
        (λ end. (inr end, begins.out.1, begins.lacks, unarmed_rose part counts now faults more others [] log (begins.full end).1))

    -- the call found no memory
    module _ (last : Counts) (most : Faults) (is : last ≡ record now { failed = true; lacks = last.lacks }) (rose : Rose now.lacks last.lacks) (later : now.lacks ≤ last.lacks) (unarmed : most.unarmed ≡ more.unarmed) (are : P []) (after : List Act) (grew : after ≡ log) where
      moved_last : Begins Goes counts now faults more → Moved counts last faults most
      moved_last begins =
          let made : last.made ≡ now.made = ap (λ (c : Counts). c.made) is in
          let armed : last.armed ≡ now.armed = ap (λ (c : Counts). c.armed) is in
          let stops : last.stops ≡ now.stops = ap (λ (c : Counts). c.stops) is in
          let stopped : last.stopped ≡ now.stopped = ap (λ (c : Counts). c.stopped) is in
          record {
            once = made ∙ begins.once;
            kept = omega (arith, made, begins.kept);
            armed = omega (arith, armed, made, begins.armed);
            stops = omega (arith, armed, stops, begins.stops);
            stopped = (
              λ h. ⊎_elim (λ before. inl before) (λ reached. inr (omega (arith, reached, stops))) (begins.stopped.0 (sym stopped ∙ h)),
              λ h. stopped ∙ begins.stopped.1 (⊎_elim (λ before. inl before) (λ reached. inr (omega (arith, reached, stops))) h),
            );
            lacks = omega (arith, later, begins.lacks);
            unarmed = omega (arith, unarmed, begins.unarmed);
          }

      pub lacked : Begins Goes counts now faults more → CallsOnce {T = T} part (Err e) P (told_at part log counts faults others) (told_at part after last most others)
      lacked begins =
          subst (λ (l : List Act). CallsOnce {T = T} part (Err e) P (told_at part log counts faults others) (told_at part l last most others)) (sym grew)
          (failing T e P part counts last faults most others [] log (moved_last begins) (ap (λ (c : Counts). c.failed) is) (omega (arith, (moved_last begins).kept)) refl are
          (inl (inr (inr (
            begins.out.3,
            ap (λ (c : Counts). c.stops) is ∙ begins.out.2,
            omega (arith, rose, begins.lacks),
            unarmed_same part counts last faults most others [] log (unarmed ∙ ap (λ (f : Faults). f.unarmed) begins.out.4),
          ))))
          (λ end. absurd (omega (arith, end, begins.out.1, begins.once))))
