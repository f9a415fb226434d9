use Rattle.compile_laws.proofs.AlikeCalls.{raising_same, path_same, around_same, goal_same, method_defined_same, open_same, home_same, leave_same, given_block_same, call_same, super_same}
use Rattle.compile_laws.proofs.alike.calls_are_alike.Goals as goal

pub returns : goal.returns
returns c = record {
  calls = λ it frame at_line line a. call_same it frame at_line line a.frames a.lines;
  supers = λ it frame at_line line a. super_same it frame at_line line a.frames a.lines;
  blocks = λ it frame at_line line a. given_block_same it frame at_line line a.frames a.lines;
  raises = λ it frame at_line line a. raising_same it frame at_line line a.frames a.lines;
  paths = λ it frame at_line line a. path_same it frame at_line line a.frames a.lines;
  names = λ it frame at_line line a. around_same it frame at_line line a.frames a.lines;
  goals = λ it frame at_line line a. goal_same it frame at_line line a.frames a.lines;
  methods = λ it frame at_line line a. method_defined_same it frame at_line line a.frames a.lines;
  classes = λ it frame at_line line a. open_same it frame at_line line a.frames a.lines;
  returns = λ it frame at_line line a. home_same it frame at_line line a.frames a.lines;
  breaks = λ it frame at_line line a. leave_same it frame at_line line a.frames a.lines;
}
