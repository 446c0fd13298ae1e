use Rattle.std.proofs.Common.{◌≡◌, ◌∙◌, rules, sym, ap, subst, inl, inr, length, ⊎_elim}
use Rattle.std.proofs.lemmas.Bool.{eq-eqb, eqb-true}
use Rattle.faim_base.specs.Numbers.{IsDay}
use Rattle.faim_base.specs.Ranges.{IsEndpoint}
use Rattle.bank_books.specs.Openings.{IsBankEnv, IsBankOpening}
use Rattle.bank_books.specs.declared.entries.BankOpening.{BankOpening}
use Rattle.bank_books.proofs.entries.BankOpening.is_sound.Goals as goal

sound_with : (o : BankOpening) → IsEndpoint o.endpoint → IsDay o.date → IsBankEnv o.env → IsBankOpening o
sound_with o endpoint date env = record { endpoint = endpoint; env = env; date = date }

pub returns-then-self-eq84 : goal.returns-then-self-eq84
returns-then-self-eq84 c =
    let long : length c.bytes.result ≡ 8 = search rules in
    let date : IsDay c.args.self.now.date = subst IsDay c.get.ensures.value c.get.ensures.range in (
      λ yes. sound_with c.args.self.now (ap length (sym c.bytes.ensures.value) ∙ long, c.bytes.ensures.named) date (inl c.if-self-eq84.true),
      λ sound. eq-eqb c.args.self.now.env 84 c.if-self-eq84.true,
    )

pub returns-else-self-eq84 : goal.returns-else-self-eq84
returns-else-self-eq84 c =
    let long : length c.bytes.result ≡ 8 = search rules in
    let date : IsDay c.args.self.now.date = subst IsDay c.get.ensures.value c.get.ensures.range in (
      λ yes. sound_with c.args.self.now (ap length (sym c.bytes.ensures.value) ∙ long, c.bytes.ensures.named) date (inr (eqb-true c.args.self.now.env 80 yes)),
      λ sound. ⊎_elim (λ test. absurd (c.if-self-eq84.false test)) (λ production. eq-eqb c.args.self.now.env 80 production) sound.env,
    )
