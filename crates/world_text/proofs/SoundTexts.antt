-- The configuration of every script is sound, and so is that of every text of a configuration.
use Rattle.std.proofs.Common.{◌≡◌, ⊎_elim, ℕ, ◌+◌, ◌<◌, ◌≤◌, Bool, true, false, List, [], ◌∷◌, ◌++◌, length, Option, Some, None, sym, ◌∙◌, refl, subst, arith}
use Rattle.std.specs.Prelude.{◌==◌, ◌&&◌, ◌||◌, not, nat_le, Ok, Err, bytes_eq, codes, is_some, if◌then◌else◌}
use Rattle.std.proofs.lemmas.Bool.Decides.{nat_tests}
use Rattle.std.proofs.lemmas.Map.Keys.{IsDistinct-from_apart}
use Rattle.std.proofs.lemmas.Slice.Eq.{bytes_eq-Decides}
use Rattle.faim_base.specs.Ids.{◌>>=◌}
use Rattle.faim_base.specs.Numbers.{IsDay}
use Rattle.faim_base.specs.Ranges.{IsAba, IsEndpoint}
use Rattle.faim_base.specs.Text.{aba_holds}
use Rattle.host_ledger.specs.declared.config.Account.{Account}
use Rattle.host_ledger.specs.declared.config.Config.{Config}
use Rattle.host_ledger.specs.Accounts.{account_in, has_endpoint, endpoints_of}
use Rattle.host_ledger.specs.Soundness.{account_limit, endpoint_limit, operator, AreAccounts, IsAccount, IsBalance, IsConfig, IsCutoff, IsEnv}
use Rattle.world_text.specs.declared.script.Event.{Event}
use Rattle.world_text.specs.declared.script.Script.{Script}
use Rattle.world_text.specs.declared.script.Why.TheVariants.{Shape, Value, Twice, Place, Limit, Ended}
use Rattle.world_text.specs.Fields.{env_word, date_word, cutoff_word, endpoint_word, aba_word, cents_word}
use Rattle.world_text.specs.Grammar.{FirstLines, TextLines, account_beside, account_line, account_values, account_words, accounts_from, at_line, config_after, config_of, events_from, first_lines, host_line, host_values, host_words, is_begin, is_over_limit, script_after, script_of, text_lines}
use Rattle.world_text.specs.Lines.{words_of}
use Rattle.world_text.proofs.SoundWords.{aba_sound, cents_sound, choice, cutoff_sound, date_sound, endpoint_sound, env_sound, line_step, tested, text_step, value_step, word_step}

-- one account more beside those of a list
abbrev pub OneMore : Type 0
OneMore = (accounts : List Account) (account : Account) → AreAccounts accounts → IsAccount account → account_in accounts account.aba ≡ None
    → length accounts < account_limit → (has_endpoint accounts account.endpoint ≡ false → length (endpoints_of accounts) < endpoint_limit)
    → AreAccounts (accounts ++ account ∷ [])

-- what a `host` line says
record HasValues (c : Config) : Type 0 where
  env : IsEnv c.env
  date : IsDay c.date
  customer : IsCutoff c.customer
  bank : IsCutoff c.bank

host_sound : (env date customer bank : List ℕ) (c : Config) → host_values env date customer bank ≡ Ok c → HasValues c
host_sound env date customer bank c is =
    let e = value_step (env_word env) Value _ c is in
    let d = value_step (date_word date) Value _ c e.2 in
    let k = value_step (cutoff_word customer) Value _ c d.2 in
    let b = value_step (cutoff_word bank) Value _ c k.2 in
    let made : Config = record { env = e.0; date = d.0; customer = k.0; bank = b.0; accounts = [] } in
    let same : made ≡ c = let ok = b.2 in cc in
    subst HasValues same (record { env = env_sound env e.0 e.1; date = date_sound date d.0 d.1; customer = cutoff_sound customer k.0 k.1; bank = cutoff_sound bank b.0 b.1 })

host_words_sound : (ws : List (List ℕ)) (c : Config) → host_words ws ≡ Ok c → HasValues c
host_words_sound [] c is = absurd cc
host_words_sound (v ∷ []) c is = absurd cc
host_words_sound (v ∷ w ∷ []) c is = absurd cc
host_words_sound (v ∷ w ∷ x ∷ []) c is = absurd cc
host_words_sound (v ∷ w ∷ x ∷ y ∷ []) c is = absurd cc
host_words_sound (v ∷ w ∷ x ∷ y ∷ z ∷ []) c is = host_sound w x y z c (tested (bytes_eq v (codes "host")) (host_values w x y z) Shape c is)
host_words_sound (v ∷ w ∷ x ∷ y ∷ z ∷ more ∷ ws) c is = absurd cc

-- what an `account` line says
record HasWords (a : Account) : Type 0 where
  aba : IsAba a.aba
  check : aba_holds a.aba ≡ true
  endpoint : IsEndpoint a.endpoint
  opening : IsBalance a.opening
  floor : IsBalance a.floor

values_sound : (aba endpoint opening floor : List ℕ) (a : Account) → account_values aba endpoint opening floor ≡ Ok a → HasWords a
values_sound aba endpoint opening floor a is =
    let n = value_step (aba_word aba) Value _ a is in
    let e = value_step (endpoint_word endpoint) Value _ a n.2 in
    let o = value_step (cents_word opening) Value _ a e.2 in
    let f = value_step (cents_word floor) Value _ a o.2 in
    let made : Account = record { aba = n.0; endpoint = e.0; opening = o.0; floor = f.0 } in
    let same : made ≡ a = let ok = f.2 in cc in
    let number = aba_sound aba n.0 n.1 in
    subst HasWords same (record { aba = number.0; check = number.1; endpoint = endpoint_sound endpoint e.0 e.1; opening = cents_sound opening o.0 o.1; floor = cents_sound floor f.0 f.1 })

words_sound : (ws : List (List ℕ)) (a : Account) → account_words ws ≡ Ok a → HasWords a
words_sound [] a is = absurd cc
words_sound (v ∷ []) a is = absurd cc
words_sound (v ∷ w ∷ []) a is = absurd cc
words_sound (v ∷ w ∷ x ∷ []) a is = absurd cc
words_sound (v ∷ w ∷ x ∷ y ∷ []) a is = absurd cc
words_sound (v ∷ w ∷ x ∷ y ∷ z ∷ []) a is = values_sound w x y z a (tested (bytes_eq v (codes "account")) (account_values w x y z) Shape a is)
words_sound (v ∷ w ∷ x ∷ y ∷ z ∷ more ∷ ws) a is = absurd cc

-- an account that may stand after others
passed : (t p l : Bool) (a b : Account) → (if t then Err Twice else if p then Err Place else if l then Err Limit else Ok a) ≡ Ok b
    → (t ≡ false) × (p ≡ false) × (l ≡ false) × (a ≡ b)
passed true p l a b is = absurd cc
passed false true l a b is = absurd cc
passed false false true a b is = absurd cc
passed false false false a b is = (refl, refl, refl, cc)

none_there : (o : Option Account) → is_some o ≡ false → o ≡ None
none_there None absent = refl
none_there (Some a) absent = absurd cc

has_room : (many served : Bool) (accounts endpoints : ℕ) → (many || (not served && nat_le endpoint_limit endpoints)) ≡ false → many ≡ nat_le account_limit accounts
    → (accounts < account_limit) × (served ≡ false → endpoints < endpoint_limit)
has_room true served accounts endpoints over is = absurd cc
has_room false true accounts endpoints over is = (grind (arith, nat_tests), λ other. absurd cc)
has_room false false accounts endpoints over is = (grind (arith, nat_tests), λ other. grind (arith, nat_tests))

one_account : OneMore → (before : List Account) (line : List ℕ) (a : Account) → AreAccounts before → account_line before line ≡ Ok a → AreAccounts (before ++ a ∷ [])
one_account more before line a are is =
    let read = word_step (account_words (words_of 5 line)) (λ b. account_beside before b) a is in
    let b = read.0 in
    let beside = passed (is_some (account_in before b.aba)) (bytes_eq b.endpoint operator) (is_over_limit before b) b a read.2 in
    let values = words_sound (words_of 5 line) b read.1 in
    let room = has_room (nat_le account_limit (length before)) (has_endpoint before b.endpoint) (length before) (length (endpoints_of before)) beside.2 refl in
    let sound : IsAccount b = record {
      aba = values.aba;
      check = values.check;
      endpoint = values.endpoint;
      not_operator = λ same. let both : true ≡ false = sym ((bytes_eq-Decides b.endpoint operator).1 same) ∙ beside.1 in absurd cc;
      opening = values.opening;
      floor = values.floor;
    } in
    subst (λ (x : Account). AreAccounts (before ++ x ∷ [])) beside.3
    (more before b are sound (none_there (account_in before b.aba) beside.0) room.0 room.1)

-- what the first lines of a text say
record HasFirst (f : FirstLines) : Type 0 where
  values : HasValues f.config
  accounts : AreAccounts f.config.accounts
  some : (f.rest ≡ [] → ⊥) → 1 ≤ length f.config.accounts

with_accounts : (c : Config) (before : List Account) → HasValues c → HasValues (record c { accounts = before })
with_accounts c before values = record { env = values.env; date = values.date; customer = values.customer; bank = values.bank }

some_accounts : (before : List Account) (line : List ℕ) → is_begin before line ≡ true → 1 ≤ length before
some_accounts [] line begins = absurd cc
some_accounts (a ∷ before) line begins = omega arith

accounts_sound : OneMore → (c : Config) (before : List Account) (n : ℕ) (lines : List (List ℕ)) (f : FirstLines) → HasValues c → AreAccounts before
    → accounts_from c before n lines ≡ Ok f → HasFirst f
accounts_sound more c before n [] f values are is =
    let made : FirstLines = record { config = record c { accounts = before }; next = n; rest = [] } in
    let same : made ≡ f = let ok = is in cc in
    let has : HasFirst made = record { values = with_accounts c before values; accounts = are; some = λ left. absurd (left refl) } in
    subst HasFirst same has
accounts_sound more c before n (line ∷ lines) f values are is = ⊎_elim
    (λ begins.
    let made : FirstLines = record { config = record c { accounts = before }; next = n; rest = line ∷ lines } in
    let same : made ≡ f = let ok = begins.1 in cc in
    let has : HasFirst made = record { values = with_accounts c before values; accounts = are; some = λ left. some_accounts before line begins.0 } in
    subst HasFirst same has)
    (λ other.
    let next = line_step n (account_line before line) (λ a. accounts_from c (before ++ a ∷ []) (n + 1) lines) f other.1 in
    accounts_sound more c (before ++ next.0 ∷ []) (n + 1) lines f values (one_account more before line next.0 are next.1) next.2)
    (choice (is_begin before line) (Ok (record { config = record c { accounts = before }; next = n; rest = line ∷ lines })) (at_line n (account_line before line) >>= (λ a. accounts_from c (before ++ a ∷ []) (n + 1) lines)) (Ok f) is)

no_accounts : AreAccounts []
no_accounts = record {
  each = tt;
  most = omega arith;
  distinct = IsDistinct-from_apart bytes_eq [] (λ i j d less within. absurd (omega arith));
  endpoints = omega arith;
}

first_sound : OneMore → (text : List ℕ) (f : FirstLines) → first_lines text ≡ Ok f → HasFirst f
first_sound more text f is =
    let lines = text_step (text_lines text) (λ (l : TextLines). at_line 1 (host_line l.first) >>= (λ c. accounts_from c [] 2 l.others)) f is in
    let host = line_step 1 (host_line lines.0.first) (λ c. accounts_from c [] 2 lines.0.others) f lines.2 in
    accounts_sound more host.0 [] 2 lines.0.others f (host_words_sound (words_of 5 lines.0.first) host.0 host.1) no_accounts host.2

with_some : (c : Config) → HasValues c → AreAccounts c.accounts → 1 ≤ length c.accounts → IsConfig c
with_some c values are some = record { env = values.env; date = values.date; customer = values.customer; bank = values.bank; some = some; accounts = are }

-- a script goes on
begun_sound : (c : Config) (n : ℕ) (rest : List (List ℕ)) (s : Script) → ((rest ≡ [] → ⊥) → IsConfig c) → script_after c n rest ≡ Ok s → IsConfig s.config
begun_sound c n [] s sound is = absurd cc
begun_sound c n (begins ∷ lines) s sound is =
    let events = text_step (events_from [] (n + 1) lines) (λ (l : List Event). Ok (record { config = c; events = l })) s is in
    let made : Script = record { config = c; events = events.0 } in
    let same : made ≡ s = let ok = events.2 in cc in
    subst (λ (x : Script). IsConfig x.config) same (sound (λ none. absurd cc))

pub script_sound : OneMore → (text : List ℕ) (s : Script) → script_of text ≡ Ok s → IsConfig s.config
script_sound more text s is =
    let first = text_step (first_lines text) (λ f. script_after f.config f.next f.rest) s is in
    let f = first.0 in
    let has = first_sound more text f first.1 in
    begun_sound f.config f.next f.rest s (λ left. with_some f.config has.values has.accounts (has.some left)) first.2

-- the text of a configuration ends
not_empty : (accounts : List Account) → (length accounts == 0) ≡ false → 1 ≤ length accounts
not_empty [] some = absurd cc
not_empty (a ∷ accounts) some = omega arith

ended_sound : (c d : Config) (n : ℕ) (rest : List (List ℕ)) → HasValues c → AreAccounts c.accounts → config_after c n rest ≡ Ok d → IsConfig d
ended_sound c d n [] values are is = ⊎_elim
    (λ (none : (length c.accounts == 0 ≡ true) × (Err (record { line = n; why = Ended }) ≡ Ok d)). absurd (let wrong = none.1 in cc))
    (λ some.
    let same : c ≡ d = let ok = some.1 in cc in
    subst IsConfig same (with_some c values are (not_empty c.accounts some.0)))
    (choice (length c.accounts == 0) (Err (record { line = n; why = Ended })) (Ok c) (Ok d) is)
ended_sound c d n (line ∷ lines) values are is = absurd cc

pub config_sound : OneMore → (text : List ℕ) (c : Config) → config_of text ≡ Ok c → IsConfig c
config_sound more text c is =
    let first = text_step (first_lines text) (λ f. config_after f.config f.next f.rest) c is in
    let f = first.0 in
    let has = first_sound more text f first.1 in
    ended_sound f.config c f.next f.rest has.values has.accounts first.2
