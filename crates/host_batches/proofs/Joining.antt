-- Groups go frame by frame, and stay sound.
use Rattle.std.proofs.Common.{◌≡◌, ⊎_elim, refl, sym, ap, subst, ◌∙◌, ℕ, suc, ◌+◌, ◌<◌, ◌≤◌, max, List, [], ◌∷◌, ◌++◌, append_assoc, append-nil, length, map, Option, Some, None, arith}
use Rattle.std.specs.List.{AllByRecursion, Contains}
use Rattle.std.specs.Option.{option_to_list}
use Rattle.std.proofs.lemmas.List.{length-append, map-append}
use Rattle.std.proofs.lemmas.List.Elements.{Contains-append_cases}
use Rattle.faim_base.specs.Numbers.{IsMoment}
use Rattle.link_frames.specs.Frames.{Content as Frame, IsFrame}
use Rattle.host_ledger.specs.declared.config.Config.{Config}
use Rattle.host_ledger.specs.declared.entries.Entry.{Entry}
use Rattle.host_ledger.specs.Ranges.{IsEntry}
use Rattle.host_ledger.specs.Soundness.{IsConfig}
use Rattle.faim_model.specs.Frames.{Covered}
use Rattle.faim_model.specs.Lawful.{Follows, Lawful, last_moment, moment_of}
use Rattle.faim_model.specs.Sessions.{Arrival, IsArrival, entries_after, entries_with, frames_at}
use Rattle.faim_model.specs.Steps.{host_step}
use Rattle.faim_model.specs.Turns.{adds_to, effective}
use Rattle.faim_model.proofs.Members.{first_or_later, none_in}
use Rattle.faim_model.proofs.SessionLemmas.{entries_join, frames_join, session_covered, session_in_calendar, session_lawful}
use Rattle.faim_model.proofs.Spelled.{follows_spelled}
use Rattle.faim_model.proofs.Stepping.{step_follows, step_in_calendar, step_moment}
use Rattle.host_batches.specs.Groups.{Group, GroupStep, IsGroup, arrivals_in, arrivals_of, entries_after_group, entries_by, group_step, recent_after_groups, recent_by}

-- each of these entries may follow those before it
abbrev pub AllFollow : Config → List Entry → List Entry → Type 0
AllFollow c es [] = Unit {0}
AllFollow c es (x ∷ newer) = Follows c (newer ++ es) x × AllFollow c es newer

abbrev IsTimed : Arrival → Type 0
IsTimed a = IsMoment a.reading

timed_in : (reading : ℕ) (fs : List Frame) → IsMoment reading → AllByRecursion IsTimed (arrivals_in (record { frames = fs; reading = reading }))
timed_in reading [] timed = tt
timed_in reading (f ∷ fs) timed = (timed, timed_in reading fs timed)

sound_in : (reading : ℕ) (fs : List Frame) → AllByRecursion IsFrame fs → IsMoment reading → AllByRecursion IsArrival (arrivals_in (record { frames = fs; reading = reading }))
sound_in reading [] sound timed = tt
sound_in reading (f ∷ fs) sound timed = (record { sound = sound.0; timed = timed }, sound_in reading fs sound.1 timed)

all_on : (xs ys : List Arrival) → AllByRecursion IsArrival xs → AllByRecursion IsArrival ys → AllByRecursion IsArrival (xs ++ ys)
all_on [] ys first later = later
all_on (a ∷ xs) ys first later = (first.0, all_on xs ys first.1 later)

pub all_sound : (groups : List Group) → AllByRecursion IsGroup groups → AllByRecursion IsArrival (arrivals_of groups)
all_sound [] sound = tt
all_sound (g ∷ later) sound = all_on (arrivals_in g) (arrivals_of later) (sound_in g.reading g.frames sound.0.each sound.0.timed) (all_sound later sound.1)

module _ (c : Config) where
  added : (es : List Entry) (adds : Option Entry) → adds_to adds es ≡ option_to_list adds ++ es
  added es None = refl
  added es (Some x) = refl

  -- what arrivals add stands in front of what was there
  pub after_by : (es : List Entry) (xs : List Arrival) → entries_after c es xs ≡ entries_by c es xs ++ es
  after_by es [] = refl
  after_by es (a ∷ xs) =
      let adds : Option Entry = (host_step c es a.frame a.reading).adds in
      let next : List Entry = entries_with c es a in
      after_by next xs
      ∙ ap (λ (l : List Entry). entries_by c next xs ++ l) (added es adds)
      ∙ sym (append_assoc (entries_by c next xs) (option_to_list adds) es)

  by_on : (es : List Entry) (xs ys : List Arrival) → entries_by c es (xs ++ ys) ≡ entries_by c (entries_after c es xs) ys ++ entries_by c es xs
  by_on es [] ys = sym (append-nil (entries_by c es ys))
  by_on es (a ∷ xs) ys =
      let next : List Entry = entries_with c es a in
      let own : List Entry = option_to_list (host_step c es a.frame a.reading).adds in
      ap (λ (l : List Entry). l ++ own) (by_on next xs ys)
      ∙ append_assoc (entries_by c (entries_after c next xs) ys) (entries_by c next xs) own

  -- ---- one frame, and one more

  pub group_of_one : (es : List Entry) (f : Frame) (reading : ℕ) → group_step c es (record { frames = f ∷ []; reading = reading })
      ≡ record { adds = option_to_list (host_step c es f reading).adds; sends = (host_step c es f reading).sends }
  group_of_one es f reading = λ k. record { adds = option_to_list (host_step c es f reading).adds; sends = append-nil (host_step c es f reading).sends k }

  module _ (es : List Entry) (fs : List Frame) (f : Frame) (reading : ℕ) where
    abbrev before : Group
    before = record { frames = fs; reading = reading }

    abbrev one_more : Group
    one_more = record { frames = fs ++ f ∷ []; reading = reading }

    abbrev last : Arrival
    last = record { frame = f; reading = reading }

    split : arrivals_in one_more ≡ arrivals_in before ++ last ∷ []
    split = map-append (λ (g : Frame). record { frame = g; reading = reading }) fs (f ∷ [])

    adds_more : entries_by c es (arrivals_in one_more) ≡ option_to_list (host_step c (entries_after_group c es before) f reading).adds ++ (group_step c es before).adds
    adds_more =
        ap (entries_by c es) split
        ∙ by_on es (arrivals_in before) (last ∷ [])
        ∙ ap (λ (l : List Entry). option_to_list (host_step c l f reading).adds ++ (group_step c es before).adds) (after_by es (arrivals_in before))

    sends_more : frames_at c es (arrivals_in one_more) ≡ (group_step c es before).sends ++ (host_step c (entries_after_group c es before) f reading).sends
    sends_more =
        ap (frames_at c es) split
        ∙ frames_join c es (arrivals_in before) (last ∷ [])
        ∙ ap (λ (l : List Frame). (group_step c es before).sends ++ l)
        (append-nil (host_step c (entries_after c es (arrivals_in before)) f reading).sends
        ∙ ap (λ (l : List Entry). (host_step c l f reading).sends) (after_by es (arrivals_in before)))

    pub group_with : group_step c es one_more
        ≡ record {
          adds = option_to_list (host_step c (entries_after_group c es before) f reading).adds ++ (group_step c es before).adds;
          sends = (group_step c es before).sends ++ (host_step c (entries_after_group c es before) f reading).sends;
        }
    group_with = λ k. record { adds = adds_more k; sends = sends_more k }

  -- ---- few entries, each of which may follow

  few_of : (adds : Option Entry) → length (option_to_list adds) ≤ 1
  few_of None = omega arith
  few_of (Some x) = omega arith

  few_by : (es : List Entry) (xs : List Arrival) → length (entries_by c es xs) ≤ length xs
  few_by es [] = omega arith
  few_by es (a ∷ xs) =
      let adds : Option Entry = (host_step c es a.frame a.reading).adds in
      let later : List Entry = entries_by c (entries_with c es a) xs in
      let few : length later ≤ length xs = few_by (entries_with c es a) xs in
      let one : length (option_to_list adds) ≤ 1 = few_of adds in
      let both : length (later ++ option_to_list adds) ≡ length later + length (option_to_list adds) = length-append later (option_to_list adds) in
      omega (arith, few, one, both)

  as_many : (reading : ℕ) (fs : List Frame) → length (arrivals_in (record { frames = fs; reading = reading })) ≡ length fs
  as_many reading [] = refl
  as_many reading (f ∷ fs) = ap suc (as_many reading fs)

  pub few_added : (es : List Entry) (g : Group) → length (group_step c es g).adds ≤ length g.frames
  few_added es g =
      let few : length (group_step c es g).adds ≤ length (arrivals_in g) = few_by es (arrivals_in g) in
      let same : length (arrivals_in g) ≡ length g.frames = as_many g.reading g.frames in
      omega (arith, few, same)

  follow_on : (es later first : List Entry) → AllFollow c (first ++ es) later → AllFollow c es first → AllFollow c es (later ++ first)
  follow_on es [] first ones others = others
  follow_on es (x ∷ later) first ones others =
      (subst (λ (l : List Entry). Follows c l x) (sym (append_assoc later first es)) ones.0, follow_on es later first ones.1 others)

  follow_one : (es : List Entry) (adds : Option Entry) → ((x : Entry) → adds ≡ Some x → Follows c es x) → AllFollow c es (option_to_list adds)
  follow_one es None may = tt
  follow_one es (Some x) may = (may x refl, tt)

  pub all_follow : (es : List Entry) (xs : List Arrival) → AllFollow c es (entries_by c es xs)
  all_follow es [] = tt
  all_follow es (a ∷ xs) =
      let adds : Option Entry = (host_step c es a.frame a.reading).adds in
      let next : List Entry = entries_with c es a in
      follow_on es (entries_by c next xs) (option_to_list adds)
      (subst (λ (l : List Entry). AllFollow c l (entries_by c next xs)) (added es adds) (all_follow next xs))
      (follow_one es adds (step_follows c es a.frame a.reading))

  pub one_follows : (es later older : List Entry) (x : Entry) → AllFollow c es (later ++ x ∷ older) → Follows c (older ++ es) x
  one_follows es [] older x all = all.0
  one_follows es (y ∷ later) older x all = one_follows es later older x all.1

  pub group_lawful : (es : List Entry) (g : Group) → Lawful c es → Lawful c (entries_after_group c es g)
  group_lawful es g lawful = subst (Lawful c) (after_by es (arrivals_in g)) (session_lawful c es (arrivals_in g) lawful)

  -- ---- in the calendar

  timed_on : (es : List Entry) (xs : List Arrival) → AllByRecursion IsTimed xs → IsMoment (last_moment es) → IsMoment (last_moment (entries_after c es xs))
  timed_on es [] timed before = before
  timed_on es (a ∷ xs) timed before = timed_on (entries_with c es a) xs timed.1 (step_in_calendar c es a.frame a.reading timed.0 before)

  pub group_in_calendar : (es : List Entry) (g : Group) → IsMoment g.reading → IsMoment (last_moment es) → IsMoment (last_moment (entries_after_group c es g))
  group_in_calendar es g timed before =
      subst (λ (l : List Entry). IsMoment (last_moment l)) (after_by es (arrivals_in g)) (timed_on es (arrivals_in g) (timed_in g.reading g.frames timed) before)

  spelled_one : (es : List Entry) (a : Arrival) (adds : Option Entry) (x : Entry) → IsConfig c → IsMoment a.reading → IsMoment (last_moment es)
      → ((y : Entry) → adds ≡ Some y → Follows c es y) → ((y : Entry) → adds ≡ Some y → moment_of y ≡ effective es a.reading)
      → Contains (option_to_list adds) x → IsEntry x
  spelled_one es a None x sound timed before may at there = absurd (none_in x there)
  spelled_one es a (Some y) x sound timed before may at there =
      let same : x ≡ y = ⊎_elim (λ (here : x ≡ y). here) (λ (later : Contains [] x). absurd (none_in x later)) (first_or_later y x [] there) in
      let moment : moment_of y ≡ max a.reading (last_moment es) = at y refl in
      let in_calendar : IsMoment (moment_of y) = omega (arith, moment, timed, before) in
      subst IsEntry (sym same) (follows_spelled c es y sound (may y refl) in_calendar)

  spelled_by : (es : List Entry) (xs : List Arrival) (x : Entry) → IsConfig c → AllByRecursion IsTimed xs → IsMoment (last_moment es)
      → Contains (entries_by c es xs) x → IsEntry x
  spelled_by es [] x sound timed before there = absurd (none_in x there)
  spelled_by es (a ∷ xs) x sound timed before there =
      let adds : Option Entry = (host_step c es a.frame a.reading).adds in
      let next : List Entry = entries_with c es a in
      ⊎_elim (λ (later : Contains (entries_by c next xs) x). spelled_by next xs x sound timed.1 (step_in_calendar c es a.frame a.reading timed.0 before) later)
      (λ (own : Contains (option_to_list adds) x).
      spelled_one es a adds x sound timed.0 before (step_follows c es a.frame a.reading) (step_moment c es a.frame a.reading) own)
      (Contains-append_cases (entries_by c next xs) (option_to_list adds) x there)

  pub group_spelled : (es : List Entry) (g : Group) (x : Entry) → IsConfig c → IsMoment g.reading → IsMoment (last_moment es) → Contains (group_step c es g).adds x → IsEntry x
  group_spelled es g x sound timed before there = spelled_by es (arrivals_in g) x sound (timed_in g.reading g.frames timed) before there

  -- ---- what is sent

  pub group_covered : (es : List Entry) (g : Group) (f : Frame) → IsGroup g → IsMoment (last_moment es) → Contains (group_step c es g).sends f
      → Covered c (entries_after_group c es g) f
  group_covered es g f sound before there =
      subst (λ (l : List Entry). Covered c l f) (after_by es (arrivals_in g))
      (session_covered c es 0 (arrivals_in g) f (sound_in g.reading g.frames sound.each sound.timed) before there)

  -- ---- sessions

  pub entries_on : (es : List Entry) (g : Group) (later : List Group) → entries_after c es (arrivals_of (g ∷ later)) ≡ entries_after c (entries_after_group c es g) (arrivals_of later)
  entries_on es g later =
      entries_join c es (arrivals_in g) (arrivals_of later)
      ∙ ap (λ (l : List Entry). entries_after c l (arrivals_of later)) (after_by es (arrivals_in g))

  pub frames_on : (es : List Entry) (g : Group) (later : List Group)
      → frames_at c es (arrivals_of (g ∷ later)) ≡ (group_step c es g).sends ++ frames_at c (entries_after_group c es g) (arrivals_of later)
  frames_on es g later =
      frames_join c es (arrivals_in g) (arrivals_of later)
      ∙ ap (λ (l : List Entry). (group_step c es g).sends ++ frames_at c l (arrivals_of later)) (after_by es (arrivals_in g))

  few_recent_by : (es : List Entry) (r : ℕ) (adds : List Entry) → r ≤ length es → recent_by r adds ≤ length (adds ++ es)
  few_recent_by es r [] few = few
  few_recent_by es r (x ∷ older) few =
      let both : length ((x ∷ older) ++ es) ≡ length (x ∷ older) + length es = length-append (x ∷ older) es in
      omega (arith, both)

  pub few_recent : (es : List Entry) (r : ℕ) (groups : List Group) → r ≤ length es → recent_after_groups c es r groups ≤ length (entries_after c es (arrivals_of groups))
  few_recent es r [] few = few
  few_recent es r (g ∷ later) few =
      subst (λ (l : List Entry). recent_after_groups c es r (g ∷ later) ≤ length l) (sym (entries_on es g later))
      (few_recent (entries_after_group c es g) (recent_by r (group_step c es g).adds) later (few_recent_by es r (group_step c es g).adds few))
