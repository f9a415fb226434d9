use Rattle.std.proofs.Common.{◌≡◌, true}
use Rattle.std.specs.List.{All}
use Rattle.bs_outside.specs.Paths.{is_segment}
use Rattle.bootsnap_ruby.proofs.folder.in_order.Given as goal

-- the names so far are segments
abbrev pub invariant-loop-name : goal.invariant-loop-name
invariant-loop-name l = All (λ listed. is_segment listed.name ≡ true) l.names
