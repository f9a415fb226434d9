-- Where a body begins, told from the end of its code.
use Rattle.std.specs.Prelude.{ℕ, ◌+◌, List, [], ◌∷◌}
use Rattle.ruby_tree.specs.Tree.{Params, no_param, required, optional, rest_param, block_param}
use Rattle.code_meaning.specs.Code.{done, size}
use Rattle.compile_table.specs.Shapes.{Where, params_shape}

-- How many instructions stand behind each place at which a body begins, where n stand behind the code for these parameters: with none of
-- the optional ones given, with one, up to all.
abbrev pub starts : Where → ℕ → Params → List ℕ
starts l n no_param = n ∷ []
starts l n (required x ps) = starts l n ps
starts l n (optional x t ps) = (size (params_shape l (optional x t ps) done) + n) ∷ starts l n ps
starts l n (rest_param x ps) = starts l n ps
starts l n (block_param x ps) = starts l n ps
