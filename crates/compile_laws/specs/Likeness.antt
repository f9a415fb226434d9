-- Frames that no call tells apart.
use Rattle.std.specs.Prelude.{◌≡◌, ℕ, Bool, false}
use Rattle.ruby_meaning.specs.Value.{nil}
use Rattle.ruby_meaning.specs.World.{Frame}
use Rattle.ruby_meaning.specs.Steps.{stand}

-- A frame without what no call looks at: the first line of its sequence, how many optional parameters were given, whether it is in a loop, and the
-- exception of its clause.
abbrev pub core : Frame → Frame
core frame = record frame { first = 0; given = 0; in_loop = false; handled = nil }

-- The first frame at the first line and the second at the second are alike but for that, and both stand in one place.
pub record Alike (it : Frame) (at_line : ℕ) (frame : Frame) (line : ℕ) : Type 0 where
  pub frames : core it ≡ core frame
  pub lines : stand it at_line ≡ stand frame line

-- the same frame, in the body of a loop or not
abbrev pub with_flag : Bool → Frame → Frame
with_flag x frame = record frame { in_loop = x }
