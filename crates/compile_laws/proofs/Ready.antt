-- What holds of the world before each part of a body: so many turns at most, and the environments outward have their names.
use Rattle.std.proofs.Common.{ℕ, ◌≤◌, arith, List}
use Rattle.ruby_tree.specs.Names.{Bytes}
use Rattle.ruby_meaning.specs.World.{World, Frame, Run, world_of}
use Rattle.ruby_meaning.specs.InSight.{HasScopes}

pub record Ready (scopes : List (List Bytes)) (frame : Frame) (n : ℕ) (w : World) : Type 0 where
  pub turns : w.turns ≤ n
  pub names : HasScopes scopes frame w

pub ready_more : (scopes : List (List Bytes)) (frame : Frame) (j n : ℕ) (w : World) → j ≤ n → Ready scopes frame j w → Ready scopes frame n w
ready_more scopes frame j n w le r = record { turns = omega (arith, r.turns); names = r.names }

pub ready_paid : (scopes : List (List Bytes)) (frame : Frame) (n j : ℕ) (w : World) → Ready scopes frame n w → Ready scopes frame j (record w { turns = j })
ready_paid scopes frame n j w r = record { turns = omega arith; names = r.names }

-- the run keeps it, from each world of at most so many turns
abbrev pub KeepsReady : List (List Bytes) → Frame → ℕ → Run → Type 0
KeepsReady scopes frame top m = (n : ℕ) (w : World) → n ≤ top → Ready scopes frame n w → Ready scopes frame n (world_of (m w))
