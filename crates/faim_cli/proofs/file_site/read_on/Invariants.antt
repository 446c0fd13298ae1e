use Rattle.std.proofs.Common.{◌≤◌, length}
use Rattle.faim_cli.proofs.file_site.read_on.Given as goal

abbrev pub invariant-loop : goal.invariant-loop
invariant-loop g l = l.count ≤ length l.buf
