-- A call, and what is written for it from its arguments on.
use Rattle.std.specs.Prelude.{ℕ, suc}
use Rattle.ruby_tree.specs.Tree.{Trees, Other}
use Rattle.iseq_types.specs.declared.instructions.Instr.{Instr}
use Rattle.iseq_types.specs.declared.instructions.Instr.TheVariants.{Send, InvokeSuper}
use Rattle.code_meaning.specs.Code.{Shape}
use Rattle.compile_table.specs.Shapes.{Where, count, args_shape, value_shape, with_literal}
use Rattle.emit_calls.specs.declared.called.Called.{Called}
use Rattle.emit_calls.specs.declared.called.Called.TheVariants.{Method, Super}

-- the instruction of a call, by its block
abbrev pub instr_of : Called → ℕ → Instr
instr_of (Method x n ks flags) = Send x n ks flags
instr_of (Super n ks flags) = InvokeSuper n ks flags

-- what stands behind the receiver: the arguments, the block value, and the call with its literal block
abbrev pub after_receiver : Where → ℕ → Trees → Other → (ℕ → Instr) → Other → Shape
after_receiver l line ts v call t = args_shape l 1 ts (value_shape l (suc (count ts)) v (with_literal l line call t))
