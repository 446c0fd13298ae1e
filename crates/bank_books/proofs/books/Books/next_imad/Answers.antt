use Rattle.std.proofs.Common.{◌≡◌, ◌≢◌, ◌≤◌, ◌∙◌, refl, sym, ap, subst, arith, ℕ, ◌+◌, Bool, true, false, if◌then◌else◌, Option, Some, None, reverse}
use Rattle.std.specs.Prelude.{IsSome}
use Rattle.std.proofs.lemmas.Bool.Decides.{nat_tests}
use Rattle.faim_base.specs.Numbers.{greatest_seq, is_seq}
use Rattle.faim_base.specs.declared.ids.OutPos.{OutPos}
use Rattle.bank_books.specs.Inbox.{bank_cycle}
use Rattle.bank_books.specs.Numbering.{drafts_in_cycle, next_imad}
use Rattle.bank_books.specs.State.{BankList}
use Rattle.bank_books.proofs.Counted.{drafts_fit, one_next, taken}
use Rattle.bank_books.proofs.books.Books.next_imad.Goals as goal

number_of : (fits : Bool) (n number : ℕ) → (if fits then Some n else None) ≡ Some number → number ≡ n
number_of true n number is = cc
number_of false n number is = absurd cc

pub overflow_add-self-inside : goal.overflow_add-self-inside
overflow_add-self-inside c =
    omega (arith, c.self.invariant.2.numbered, drafts_fit c.self.inside.opening (reverse c.self.inside.entries.items) c.self.invariant.1)

pub returns-clause-value : goal.returns-clause-value
returns-clause-value c =
    let o = c.self.inside.opening in
    let es = reverse c.self.inside.entries.items in
    let room : drafts_in_cycle o es ≢ greatest_seq = λ full. c.if-self-eq-LAST_NUMBER.false (c.self.invariant.2.numbered ∙ full) in
    let number : c.unwrap.result ≡ drafts_in_cycle o es + 1 =
    number_of (is_seq (c.self.inside.numbered + 1)) (c.self.inside.numbered + 1) c.unwrap.result (sym c.new.ensures ∙ c.unwrap.ensures)
    ∙ ap (λ (n : ℕ). n + 1) c.self.invariant.2.numbered in
    ap (λ (p : OutPos). taken p.date o.endpoint c.unwrap.result) c.self.invariant.2.wanted_next
    ∙ ap (λ (n : ℕ). taken (bank_cycle o es) o.endpoint n) number
    ∙ one_next o es room
    ∙ ap (λ (b : BankList). next_imad b.opening b.entries) c.self.view_is

in_range : (n : ℕ) → n ≤ 999_999 → n ≢ 999_999 → is_seq (n + 1) ≡ true
in_range n few room = grind (arith, nat_tests)

there_is : (fits : Bool) (n : ℕ) (r : Option ℕ) → r ≡ (if fits then Some n else None) → fits ≡ true → IsSome r
there_is true n r is fits = subst IsSome (sym is) refl
there_is false n r is fits = absurd cc

pub unwrap-requires : goal.unwrap-requires
unwrap-requires c =
    let o = c.self.inside.opening in
    let es = reverse c.self.inside.entries.items in
    let n = c.self.inside.numbered in
    let few : n ≤ 999_999 = omega (arith, c.self.invariant.2.numbered, drafts_fit o es c.self.invariant.1) in
    there_is (is_seq (n + 1)) (n + 1) c.new.result c.new.ensures (in_range n few c.if-self-eq-LAST_NUMBER.false)
