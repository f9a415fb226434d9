use Rattle.parse_statements.specs.declared.modifiers.Modifier.TheVariants as modifier
use Rattle.parse_statements.proofs.StatementLoops.{modified_as}
use Rattle.parse_statements.proofs.modifiers.made.Goals as goal

pub returns-in-If : goal.returns-in-If
returns-in-If c = record { made = λ T o v b a t at word behind told h k. modified_as T c.where_true.result modifier.If c.args.modifier o v b a t c.in-If.is (c.where_true.ensures.made T o a t at h k) }

pub returns-in-Unless : goal.returns-in-Unless
returns-in-Unless c = record { made = λ T o v b a t at word behind told h k. modified_as T c.where_false.result modifier.Unless c.args.modifier o v b a t c.in-Unless.is (c.where_false.ensures.made T o a t at h k) }

pub returns-in-While : goal.returns-in-While
returns-in-While c = record { made = λ T o v b a t at word behind told h k. modified_as T c.looped.result modifier.While c.args.modifier o v b a t c.in-While.is (c.looped.ensures.made T o b a t at told h k) }

pub returns-in-Until : goal.returns-in-Until
returns-in-Until c = record { made = λ T o v b a t at word behind told h k. modified_as T c.looped-in-Until.result modifier.Until c.args.modifier o v b a t c.in-Until.is (c.looped-in-Until.ensures.made T o b a t at told h k) }

pub returns-in-Rescue : goal.returns-in-Rescue
returns-in-Rescue c = record { made = λ T o v b a t at word behind told h k. modified_as T c.rescued.result modifier.Rescue c.args.modifier o v b a t c.in-Rescue.is (c.rescued.ensures.made T o v a t at word behind h k) }
