-- What reading a journal and then sending frames say of the calls, of each moment, and of the list.
use Rattle.std.proofs.Common.{◌≡◌, ⊎_elim, ℕ, ◌+◌, ◌≤◌, Bool, true, false, List, [], ◌∷◌, ◌++◌, length, take, replicate, sym, ◌∙◌, ap, subst, Ok, Err, Result, Option, Some, None, append-nil, arith, length-append}
use Rattle.std.specs.Prelude.{IfSome, MatchBool}
use Rattle.faim_base.specs.declared.faults.Failed.{Failed}
use Rattle.site_core.specs.Log.{Act, reads, sent, okays, Left, NothingPending}
use Rattle.site_core.specs.Log.Act.{Asked, Synced}
use Rattle.site_core.specs.Told.{Told, Ran}
use Rattle.site_core.proofs.Moments.{left_split}
use Rattle.site_core.proofs.Runs.{okays-append}
use Rattle.torn_journal.specs.Journal.{IsJournal, tail_of}
use Rattle.torn_journal.specs.Resume.{HasLooked}
use Rattle.torn_journal.proofs.OneList as images
use Rattle.store_forward.specs.Sending.{AreBrokenOff, SendsTo, SendMoments, SendCalls}
use Rattle.journaled_list.specs.declared.faults.OpenFault.{OpenFault}
use Rattle.journaled_list.specs.declared.faults.OpenFault.TheVariants.{LineFault}
use Rattle.journaled_list.specs.Rules.{Rules, Listed, AreReadOnce}
use Rattle.journaled_list.specs.Payloads.{Stands, StandFor}
use Rattle.journaled_list.specs.Loading.{Found, Finds}
use Rattle.journaled_list.specs.Ready.{IsReady}
use Rattle.journaled_list.specs.Resuming.{ResumeCalls, IsResumeMoment, Resumes, ResumesAll}
use Rattle.journaled_list.proofs.Images.{one_listed}

-- what the site tells is what it has
pub finds_known : {O E : Type 0} (rules : Rules O E) (found : Found O E) (a : Option Told) → Finds rules a found → IfSome a (λ x. Finds rules (Some x) found)
finds_known rules found None f = tt
finds_known rules found (Some x) f = f

abbrev failed : {F : Type 0} → F → Result (Unit {0}) F
failed fault = Err fault

abbrev gone : Unit {0} → Result (Unit {0}) Failed
gone done = Ok done

-- what a sending says of its calls and moments
abbrev pub IsSent : {T F : Type 0} → List (List ℕ) → Result T F → Told → Told → Type 0
IsSent frames result y z = SendCalls frames result y z × SendMoments frames result y z

-- the log is longer
pub record HasGrown (old new : Told) : Type 0 where
  pub acts : List Act
  pub log : new.log ≡ acts ++ old.log
  pub calls : old.calls ≤ new.calls

sends_grew : {T F : Type 0} (frames : List (List ℕ)) (result : Result T F) (y z : Told) → SendCalls frames result y z → HasGrown y z
sends_grew frames (Ok done) y z ran = record { acts = ran.acts; log = ran.grew; calls = ran.counted.calls }
sends_grew frames (Err fault) y z ran = record { acts = ran.acts; log = ran.grew; calls = ran.counted.calls }

module _ {O E : Type 0} (rules : Rules O E) (list : Listed O E) (last : ℕ) (frames : List (List ℕ)) (x : Told) (stands : Stands rules (reads x.log) list last) where
  none_yet : (z : Told) (image : List ℕ) (found : List (List ℕ)) → image ≡ reads x.log → found ≡ sent x.log → IsResumeMoment rules list last frames x z image found
  none_yet z image found same is = record {
    stands = subst (λ (l : List ℕ). Stands rules l list last) (sym same) stands;
    number = 0;
    few = omega arith;
    made = omega arith;
    found_are = is ∙ sym (append-nil (sent x.log));
  }

  still_pending : (whole : Bool) (log : List Act) → MatchBool whole (NothingPending log) (NothingPending x.log → NothingPending log) → NothingPending x.log → NothingPending log
  still_pending true log now before = now
  still_pending false log now before = now before

  -- a fault before the first frame
  pub looked_only : {T : Type 0} (view : T → Found O E) (e : OpenFault) (whole : Bool) (y : Told) → HasLooked whole x y → NothingPending x.log → Resumes rules view (Err e) list last frames x y
  looked_only view e whole y looked pending = record {
    each = λ image found left. let both = looked.quiet pending image found left in none_yet y image found both.0 both.1;
    none_sent = λ none image found left. (looked.quiet pending image found left).1;
    pending = still_pending whole y.log looked.pending pending;
    image = looked.image;
    most = λ ps journal. omega (arith, looked.few ps journal);
    all = tt;
    ready = tt;
  }

  -- frames behind
  module _ {T F : Type 0} (y z : Told) (looked : HasLooked true x y) (quiet : NothingPending x.log) (result : Result T F) (grew : HasGrown y z) (sends : SendsTo frames result y z) where
    pub more_calls : x.calls + 1 ≤ y.calls
    more_calls =
        let are = looked.ran.are in
        omega (arith, looked.ran.ended.0, ap okays are.1, okays-append (replicate are.0 Asked) (Synced ∷ []))

    longer : length x.log ≤ length y.log
    longer = omega (arith, ap length looked.ran.grew, length-append looked.ran.acts x.log)

    pub same_image : reads z.log ≡ reads x.log
    same_image = sends.image ∙ looked.image

    pub each_moment : (image : List ℕ) (found : List (List ℕ)) → Left (length x.log) z.log image found → IsResumeMoment rules list last frames x z image found
    each_moment image found left = ⊎_elim
        (λ first. let both = looked.quiet quiet image found first in none_yet z image found both.0 both.1)
        (λ second.
        let m = sends.each image found (subst (λ (l : List Act). Left (length y.log) l image found) (sym grew.log) second) in
        record {
          stands = subst (λ (l : List ℕ). Stands rules l list last) (sym (m.image_is ∙ looked.image)) stands;
          number = m.number;
          few = m.few;
          made = omega (arith, m.made, more_calls, grew.calls);
          found_are = m.found_are ∙ ap (λ (l : List (List ℕ)). l ++ take m.number frames) looked.frames;
        })
        (left_split grew.acts y.log (length x.log) image found longer (subst (λ (l : List Act). Left (length x.log) l image found) grew.log left))

-- all frames were sent
module _ {O E T : Type 0} (rules : Rules O E) (once : AreReadOnce rules) (view : T → Found O E) (again : Listed O E → ℕ → List (List ℕ)) (loaded : Found O E) (x y z : Told) (finds : Finds rules (Some x) loaded) (looked : HasLooked true x y) where
  module _ (list : Listed O E) (last : ℕ) (stands : Stands rules (reads x.log) list last) where
    same_list : (loaded.list ≡ list) × (loaded.last ≡ last)
    same_list = let one = one_listed rules once (reads x.log) finds.payloads loaded.list list loaded.last last finds.image finds.stand stands in (one.list, one.last)

    same_frames : again loaded.list loaded.last ≡ again list last
    same_frames = ap (λ (l : Listed O E). again l loaded.last) same_list.0 ∙ ap (again list) same_list.1

    same_tail : loaded.tail ≡ tail_of stands.payloads
    same_tail = finds.place ∙ ap tail_of (images.one_list (reads x.log) finds.payloads stands.payloads finds.image stands.journal)

  -- the line failed
  pub sent_some : {F : Type 0} (frames : List (List ℕ)) → frames ≡ again loaded.list loaded.last → (fault : F) → IsSent {T = Unit {0}} frames (Err fault) y z → ResumesAll rules view again (Err LineFault) x z
  sent_some frames are fault sent_so = λ list last quiet stands.
      let grew = sends_grew {T = Unit {0}} frames (Err fault) y z sent_so.0 in
      let s : SendsTo {T = Unit {0}} (again list last) (Err fault) y z = subst (λ (l : List (List ℕ)). SendsTo {T = Unit {0}} l (Err fault) y z) (are ∙ same_frames list last stands) (sent_so.1 looked.pending) in
      record {
        each = each_moment rules list last (again list last) x stands y z looked quiet (failed fault) grew s;
        none_sent = λ no. absurd cc;
        pending = s.pending;
        image = same_image rules list last (again list last) x stands y z looked quiet (failed fault) grew s;
        most = λ ps journal. omega (arith, looked.few ps journal, s.most);
        all = tt;
        ready = tt;
      }

  pub sent_all : (frames : List (List ℕ)) → frames ≡ again loaded.list loaded.last → (kept : T) → view kept ≡ loaded → (done : Unit {0}) → IsSent {F = Failed} frames (Ok done) y z → ResumesAll rules view again (Ok kept) x z
  sent_all frames are kept viewed done sent_so = λ list last quiet stands.
      let grew = sends_grew {F = Failed} frames (Ok done) y z sent_so.0 in
      let s : SendsTo {E = Failed} (again list last) (Ok done) y z = subst (λ (l : List (List ℕ)). SendsTo {E = Failed} l (Ok done) y z) (are ∙ same_frames list last stands) (sent_so.1 looked.pending) in
      let images_same = same_image rules list last (again list last) x stands y z looked quiet (gone done) grew s in
      let one = same_list list last stands in
      let ready : IsReady rules loaded z = record {
        stands = record {
          payloads = stands.payloads;
          journal = subst (λ (l : List ℕ). IsJournal l stands.payloads) (sym images_same) stands.journal;
          stand = subst (λ (l : Listed O E). StandFor rules stands.payloads l loaded.last) (sym one.0) (subst (λ k. StandFor rules stands.payloads list k) (sym one.1) stands.stand);
        };
        pending = s.pending;
        place = same_tail list last stands;
      } in
      record {
        each = each_moment rules list last (again list last) x stands y z looked quiet (gone done) grew s;
        none_sent = λ no. absurd cc;
        pending = s.pending;
        image = images_same;
        most = λ ps journal. omega (arith, looked.few ps journal, s.most);
        all = (s.all.1 ∙ ap (λ (l : List (List ℕ)). l ++ again list last) looked.frames, omega (arith, s.all.0, more_calls rules list last (again list last) x stands y z looked quiet (gone done) grew s));
        ready = (subst (λ (f : Found O E). IsReady rules f z) (sym viewed) ready, ap (λ (f : Found O E). f.list) viewed ∙ one.0, ap (λ (f : Found O E). f.last) viewed ∙ one.1);
      }

  -- none is to be sent
  pub read_all : ((list : Listed O E) (last : ℕ) → again list last ≡ []) → (kept : T) → view kept ≡ loaded → ResumesAll rules view again (Ok kept) x y
  read_all none kept viewed = λ list last quiet stands.
      let one = same_list list last stands in
      let are = looked.ran.are in
      let ready : IsReady rules loaded y = record {
        stands = record {
          payloads = stands.payloads;
          journal = subst (λ (l : List ℕ). IsJournal l stands.payloads) (sym looked.image) stands.journal;
          stand = subst (λ (l : Listed O E). StandFor rules stands.payloads l loaded.last) (sym one.0) (subst (λ k. StandFor rules stands.payloads list k) (sym one.1) stands.stand);
        };
        pending = looked.pending;
        place = same_tail list last stands;
      } in
      record {
        each = λ image found left. let both = looked.quiet quiet image found left in none_yet rules list last (again list last) x stands y image found both.0 both.1;
        none_sent = λ no. absurd cc;
        pending = looked.pending;
        image = looked.image;
        most = λ ps journal. omega (arith, looked.few ps journal);
        all = (looked.frames ∙ sym (append-nil (sent x.log)) ∙ ap (λ (l : List (List ℕ)). sent x.log ++ l) (sym (none list last)), omega (arith, looked.ran.ended.0, ap okays are.1, okays-append (replicate are.0 Asked) (Synced ∷ []), ap length (none list last)));
        ready = (subst (λ (f : Found O E). IsReady rules f y) (sym viewed) ready, ap (λ (f : Found O E). f.list) viewed ∙ one.0, ap (λ (f : Found O E). f.last) viewed ∙ one.1);
      }

-- a fault before the first frame
pub looked_all : {O E T : Type 0} (rules : Rules O E) (view : T → Found O E) (again : Listed O E → ℕ → List (List ℕ)) (e : OpenFault) (whole : Bool) (x y : Told) → HasLooked whole x y → ResumesAll rules view again (Err e) x y
looked_all rules view again e whole x y looked = λ list last quiet stands. looked_only rules list last (again list last) x stands view e whole y looked quiet

-- the calls of a reading, and of sends of which the last failed
pub line_calls : {O E T F : Type 0} (rules : Rules O E) (view : T → Found O E) (again : Listed O E → ℕ → List (List ℕ)) (loaded : Found O E) (x y z : Told) → Finds rules (Some x) loaded → HasLooked true x y
    → (frames : List (List ℕ)) → frames ≡ again loaded.list loaded.last → (fault : F) → SendCalls {T = Unit {0}} frames (Err fault) y z → ResumeCalls rules view again (Err LineFault) x z
line_calls rules view again loaded x y z finds looked frames are fault sends = (
  loaded,
  finds,
  record {
    mid = y;
    looked = looked;
    sends = subst (λ (l : List (List ℕ)). Ran false (AreBrokenOff l) y z) are sends;
  },
)
