-- A draft is answered at most once, and the verdict that came is kept.
use Rattle.std.proofs.Common.{◌≡◌, ⊎_elim, refl, sym, ◌∙◌, ap, subst, ℕ, ◌≤◌, Bool, true, false, List, [], ◌∷◌, length, filter, if◌then◌else◌, Option, Some, is_some, arith}
use Rattle.std.specs.List.{Contains}
use Rattle.faim_base.specs.declared.ids.Imad.{Imad}
use Rattle.faim_base.specs.declared.judgement.Verdict.{Verdict}
use Rattle.bank_books.specs.declared.entries.BankEntry.{BankEntry}
use Rattle.bank_books.specs.declared.entries.BankEntry.TheVariants.{Drafted, Answered, Received}
use Rattle.bank_books.specs.declared.entries.BankOpening.{BankOpening}
use Rattle.bank_books.specs.declared.outcomes.AckCase.TheVariants as ack
use Rattle.bank_books.specs.Drafts.{ack_case, is_answered, is_drafted, same_imad, verdict_of}
use Rattle.bank_books.specs.Lawful.{LawfulBank, answers, times_answered}
use Rattle.bank_books.proofs.Imads.{imads_equal, imads_pass}
use Rattle.bank_books.proofs.Members.{first_in, first_or_later, later_in, none_in}
use Rattle.bank_books.proofs.Waiting.{drafted_more, fresh_from, is_fresh, next_is_new, unanswered_unless_drafted}

never_by : (same : Bool) (verdict : Verdict) (found : Option Verdict) (x : BankEntry) (rest : List BankEntry)
    → is_some (if same then Some verdict else found) ≡ false → (is_some found ≡ false → length rest ≡ 0) → length (if same then x ∷ rest else rest) ≡ 0
never_by true verdict found x rest none step = absurd cc
never_by false verdict found x rest none step = step none

never_answered : (imad : Imad) (es : List BankEntry) → is_answered imad es ≡ false → times_answered imad es ≡ 0
never_answered imad [] none = refl
never_answered imad (Drafted own text ∷ older) none = never_answered imad older none
never_answered imad (Answered own verdict ∷ older) none =
    never_by (same_imad own imad) verdict (verdict_of imad older) (Answered own verdict) (filter (answers imad) older) none (λ rest. never_answered imad older rest)
never_answered imad (Received at text next ∷ older) none = never_answered imad older none

once_by : (same : Bool) (x : BankEntry) (rest : List BankEntry) → (same ≡ true → length rest ≡ 0) → length rest ≤ 1 → length (if same then x ∷ rest else rest) ≤ 1
once_by true x rest none most = let nothing : length rest ≡ 0 = none refl in omega (arith, nothing)
once_by false x rest none most = most

pub answered_once : (o : BankOpening) (es : List BankEntry) (imad : Imad) → LawfulBank o es → times_answered imad es ≤ 1
answered_once o [] imad lawful = omega arith
answered_once o (Drafted own text ∷ older) imad lawful = answered_once o older imad lawful.1
answered_once o (Answered own verdict ∷ older) imad lawful =
    once_by (same_imad own imad) (Answered own verdict) (filter (answers imad) older)
    (λ same. never_answered imad older (subst (λ (i : Imad). is_answered i older ≡ false) (imads_equal own imad same) (is_fresh older own lawful.0).unanswered))
    (answered_once o older imad lawful.1)
answered_once o (Received at text next ∷ older) imad lawful = answered_once o older imad lawful.1

-- what is answered is a draft
drafted_by : (o : BankOpening) (es : List BankEntry) (imad : Imad) (there : Bool) → is_drafted imad es ≡ there → LawfulBank o es → is_answered imad es ≡ true → is_drafted imad es ≡ true
drafted_by o es imad true is lawful kept = is
drafted_by o es imad false is lawful kept = let both : true ≡ false = sym kept ∙ unanswered_unless_drafted o es imad lawful is in absurd cc

pub answered_drafts : (o : BankOpening) (es : List BankEntry) (imad : Imad) → LawfulBank o es → is_answered imad es ≡ true → is_drafted imad es ≡ true
answered_drafts o es imad lawful kept = drafted_by o es imad (is_drafted imad es) refl lawful kept

-- a verdict that is kept came
came_by : (same : Bool) (own imad : Imad) (verdict came : Verdict) (older : List BankEntry) → same_imad own imad ≡ same
    → (if same then Some came else verdict_of imad older) ≡ Some verdict → (verdict_of imad older ≡ Some verdict → Contains older (Answered imad verdict))
    → Contains (Answered own came ∷ older) (Answered imad verdict)
came_by true own imad verdict came older test is rest =
    let same : came ≡ verdict = cc in
    subst (λ (v : Verdict). Contains (Answered own came ∷ older) (Answered imad v)) same
    (subst (λ (i : Imad). Contains (Answered own came ∷ older) (Answered i came)) (imads_equal own imad test) (first_in (Answered own came) older))
came_by false own imad verdict came older test is rest = later_in (Answered own came) (Answered imad verdict) older (rest is)

pub kept_came : (es : List BankEntry) (imad : Imad) (verdict : Verdict) → verdict_of imad es ≡ Some verdict → Contains es (Answered imad verdict)
kept_came [] imad verdict is = absurd cc
kept_came (Drafted own text ∷ older) imad verdict is = later_in (Drafted own text) (Answered imad verdict) older (kept_came older imad verdict is)
kept_came (Answered own came ∷ older) imad verdict is = came_by (same_imad own imad) own imad verdict came older refl is (λ rest. kept_came older imad verdict rest)
kept_came (Received at text next ∷ older) imad verdict is = later_in (Received at text next) (Answered imad verdict) older (kept_came older imad verdict is)

-- and one that came is kept
kept_by : (same : Bool) (own imad : Imad) (verdict came : Verdict) (older : List BankEntry) → same_imad own imad ≡ same → is_answered own older ≡ false
    → verdict_of imad older ≡ Some verdict → (if same then Some came else verdict_of imad older) ≡ Some verdict
kept_by false own imad verdict came older test none is = is
kept_by true own imad verdict came older test none is =
    let no_verdict : is_answered imad older ≡ false = subst (λ (i : Imad). is_answered i older ≡ false) (imads_equal own imad test) none in
    let both : true ≡ false = sym (ap is_some is) ∙ no_verdict in absurd cc

pub came_kept : (o : BankOpening) (es : List BankEntry) (imad : Imad) (verdict : Verdict) → LawfulBank o es → Contains es (Answered imad verdict) → verdict_of imad es ≡ Some verdict
came_kept o [] imad verdict lawful there = absurd (none_in (Answered imad verdict) there)
came_kept o (Drafted own text ∷ older) imad verdict lawful there =
    ⊎_elim (λ (here : Answered imad verdict ≡ Drafted own text). absurd cc)
    (λ (later : Contains older (Answered imad verdict)). came_kept o older imad verdict lawful.1 later) (first_or_later (Drafted own text) (Answered imad verdict) older there)
came_kept o (Answered own came ∷ older) imad verdict lawful there =
    ⊎_elim (λ (here : Answered imad verdict ≡ Answered own came). newest own came here)
    (λ (later : Contains older (Answered imad verdict)). kept_by (same_imad own imad) own imad verdict came older refl (is_fresh older own lawful.0).unanswered
    (came_kept o older imad verdict lawful.1 later)) (first_or_later (Answered own came) (Answered imad verdict) older there)
  where
    newest : (i : Imad) (v : Verdict) → Answered imad verdict ≡ Answered i v → (if same_imad i imad then Some v else verdict_of imad older) ≡ Some verdict
    newest i v here =
        let same : i ≡ imad = cc in
        let own_verdict : v ≡ verdict = cc in
        ap (λ (b : Bool). if b then Some v else verdict_of imad older) (imads_pass i imad same) ∙ ap Some own_verdict
came_kept o (Received at text next ∷ older) imad verdict lawful there =
    ⊎_elim (λ (here : Answered imad verdict ≡ Received at text next). absurd cc)
    (λ (later : Contains older (Answered imad verdict)). came_kept o older imad verdict lawful.1 later) (first_or_later (Received at text next) (Answered imad verdict) older there)

pub repeated : (o : BankOpening) (es : List BankEntry) (imad : Imad) (verdict : Verdict) → LawfulBank o es → Contains es (Answered imad verdict) → ack_case es imad ≡ ack.Repeated
repeated o es imad verdict lawful there =
    let kept : is_answered imad es ≡ true = ap is_some (came_kept o es imad verdict lawful there) in
    rw (answered_drafts o es imad lawful kept, kept) refl

pub fresh_draft : (o : BankOpening) (older : List BankEntry) (imad : Imad) (text : List ℕ) → LawfulBank o (Drafted imad text ∷ older)
    → ack_case (Drafted imad text ∷ older) imad ≡ ack.Fresh
fresh_draft o older imad text lawful =
    let new : is_drafted imad older ≡ false = next_is_new o older imad lawful.1 lawful.0 in
    fresh_from (Drafted imad text ∷ older) imad
    (drafted_more imad imad text older ∙ rw (new, imads_pass imad imad refl) refl)
    (unanswered_unless_drafted o older imad lawful.1 new)
