-- Where the bodies of a case begin, told from the end of the code.
use Rattle.std.specs.Prelude.{ℕ, ◌+◌, List, [], ◌∷◌}
use Rattle.ruby_tree.specs.Tree.{Whens, no_when, when}
use Rattle.code_meaning.specs.Code.{Shape, size}

-- How many instructions stand behind the beginning of each body, where n stand behind all of them, and this is the code of bodies.
abbrev pub starts : (Whens → Shape) → ℕ → Whens → List ℕ
starts bodies n no_when = []
starts bodies n (when ts t ws) = (size (bodies (when ts t ws)) + n) ∷ starts bodies n ws
