-- How many bytes the spellings have.
use Rattle.std.proofs.Common.{◌≡◌, ◌*◌, ◌≤◌, List, [], ◌∷◌, length, length-append, refl, arith}
use Rattle.std.specs.List.{flat_map, AllByRecursion}
use Rattle.faim_base.specs.Ranges.{IsImad}
use Rattle.faim_base.specs.declared.ids.Imad.{Imad}
use Rattle.faim_base.specs.declared.judgement.Head.{Head}
use Rattle.faim_base.specs.declared.judgement.Verdict.{Verdict}
use Rattle.faim_base.specs.declared.judgement.Verdict.TheVariants.{Taken, Refused}
use Rattle.host_ledger.specs.declared.config.Account.{Account}
use Rattle.host_ledger.specs.declared.config.Config.{Config}
use Rattle.host_ledger.specs.declared.entries.Entry.{Entry}
use Rattle.host_ledger.specs.declared.entries.Entry.TheVariants.{Posted, Roll}
use Rattle.host_ledger.specs.Ranges.{IsHead, IsVerdict, IsEntry}
use Rattle.host_ledger.specs.Soundness.{IsAccount, IsConfig}
use Rattle.entry_codec.specs.Spelling.{imad_bytes, head_bytes, verdict_bytes, entry_bytes}
use Rattle.entry_codec.specs.Config.{account_bytes, config_bytes}
use Rattle.entry_codec.specs.Sizes.{verdict_size, entry_size, shortest_entry, longest_entry, config_size, longest_config}

imad_size : (i : Imad) → IsImad i → length (imad_bytes i) ≡ 16
imad_size i fit = simp length-append (omega (arith, fit.sender.0))

head_size : (h : Head) → IsHead h → length (head_bytes h) ≡ 47
head_size h fit = simp length-append (omega (arith, imad_size h.imad fit.imad, fit.sender.0, fit.receiver.0, fit.code.0))

pub verdict_size_is : (v : Verdict) → IsVerdict v → length (verdict_bytes v) ≡ verdict_size v
verdict_size_is (Taken dest seq) fit = simp length-append (omega (arith, fit.0.0))
verdict_size_is (Refused r) fit = refl

pub entry_size_is : (e : Entry) → IsEntry e → length (entry_bytes e) ≡ entry_size e
entry_size_is (Posted head body resent moment verdict) fit = simp length-append (omega (arith, head_size head fit.0, verdict_size_is verdict fit.2))
entry_size_is (Roll moment date) fit = refl

pub verdict_sizes : (v : Verdict) → (4 ≤ verdict_size v) × (verdict_size v ≤ 13)
verdict_sizes (Taken dest seq) = (omega arith, omega arith)
verdict_sizes (Refused r) = (omega arith, omega arith)

entry_bounds : (e : Entry) → IsEntry e → (shortest_entry ≤ entry_size e) × (entry_size e ≤ longest_entry)
entry_bounds (Posted head body resent moment verdict) fit = (omega arith, omega (arith, (verdict_sizes verdict).1, fit.3.1))
entry_bounds (Roll moment date) fit = (omega arith, omega arith)

pub entry_small : (e : Entry) → IsEntry e → (shortest_entry ≤ length (entry_bytes e)) × (length (entry_bytes e) ≤ longest_entry)
entry_small e fit = (omega (arith, entry_size_is e fit, (entry_bounds e fit).0), omega (arith, entry_size_is e fit, (entry_bounds e fit).1))

account_size : (a : Account) → IsAccount a → length (account_bytes a) ≡ 33
account_size a fit = simp length-append (omega (arith, fit.aba.0, fit.endpoint.0))

accounts_size : (accounts : List Account) → AllByRecursion IsAccount accounts → length (flat_map account_bytes accounts) ≡ 33 * length accounts
accounts_size [] all = omega arith
accounts_size (a ∷ rest) all = omega (arith, length-append (account_bytes a) (flat_map account_bytes rest), account_size a all.0, accounts_size rest all.1)

pub config_size_is : (c : Config) → IsConfig c → length (config_bytes c) ≡ config_size (length c.accounts)
config_size_is c fit = simp length-append (omega (arith, accounts_size c.accounts fit.accounts.each))

pub config_small : (c : Config) → IsConfig c → length (config_bytes c) ≤ longest_config
config_small c fit = omega (arith, config_size_is c fit, fit.accounts.most)
