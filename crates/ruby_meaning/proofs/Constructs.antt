-- Each equation is what the evaluation computes to.
use Rattle.std.proofs.Common.{◌≡◌, ℕ, zero, suc, refl, ap}
use Rattle.ruby_tree.specs.Tree.{Tree}
use Rattle.ruby_meaning.specs.World.{World, Frame, Done, Retry, Spent, Run}
use Rattle.ruby_meaning.specs.Value.{Value}
use Rattle.ruby_meaning.specs.Steps.{rescued, retried}
use Rattle.ruby_meaning.specs.Files.{Files}
use Rattle.ruby_meaning.specs.Evaluation.{rescuing, run, eval}
use Rattle.ruby_meaning.specs.Constructs.{ReadsAsTable, body_of}

retry_in_body : (k : ℕ) (inner : Run) (clauses last : Value → Run) (w z : World) → inner w ≡ Retry z → rescuing k inner clauses last w ≡ Retry z
retry_in_body zero inner clauses last w z h = ap (λ o. rescued o (λ v y. retried (clauses v y) Spent) last) h
retry_in_body (suc k) inner clauses last w z h = ap (λ o. rescued o (λ v y. retried (clauses v y) (rescuing k inner clauses last)) last) h

else_part : (k : ℕ) (inner : Run) (clauses last : Value → Run) (v : Value) (w z : World) → inner w ≡ Done v z → rescuing k inner clauses last w ≡ last v z
else_part zero inner clauses last v w z h = ap (λ o. rescued o (λ u y. retried (clauses u y) Spent) last) h
else_part (suc k) inner clauses last v w z h = ap (λ o. rescued o (λ u y. retried (clauses u y) (rescuing k inner clauses last)) last) h

pub table_of : (files : Files) (fuel : ℕ) (b : Tree → Frame → Run) → ReadsAsTable files fuel b
table_of files fuel b = record {
  of_nil_value = λ s frame. refl;
  of_true_value = λ s frame. refl;
  of_false_value = λ s frame. refl;
  of_integer = λ i s frame. refl;
  of_symbol = λ x s frame. refl;
  of_text = λ x s frame. refl;
  of_self_value = λ s frame. refl;
  of_file_name = λ s frame. refl;
  of_folder_name = λ s frame. refl;
  of_line_number = λ s frame. refl;
  of_local = λ x s frame. refl;
  of_instance = λ x s frame. refl;
  of_global = λ x s frame. refl;
  of_joined = λ ps s frame. refl;
  of_array = λ ts ks s frame. refl;
  of_hash = λ ps s frame. refl;
  of_range = λ a c e s frame. refl;
  of_constant_path = λ o top xs s frame. refl;
  of_assign = λ t g s frame. refl;
  of_assign_all = λ ts gs s frame. refl;
  of_assign_attribute = λ a t m s frame. refl;
  of_assign_index = λ a i t s frame. refl;
  of_operate_attribute = λ a x t op m l s frame. refl;
  of_or_attribute = λ a x t m s frame. refl;
  of_and_attribute = λ a x t m s frame. refl;
  of_operate_index = λ a i t op l s frame. refl;
  of_or_index = λ a i t s frame. refl;
  of_and_index = λ a i t s frame. refl;
  of_send = λ o ts ks v x bare t s frame. refl;
  of_safe_send = λ a ts ks v x t s frame. refl;
  of_yield = λ ts ks s frame. refl;
  of_super = λ ts ks v t s frame. refl;
  of_bare_super = λ t s frame. refl;
  of_bare_raise = λ s frame. refl;
  of_statements = λ ts s frame. refl;
  of_both = λ a c s frame. refl;
  of_either = λ a c s frame. refl;
  of_negated = λ a s frame. refl;
  of_if_else = λ c a o s frame. refl;
  of_while_loop = λ a c until_true first s frame. refl;
  of_case_of = λ a ws o s frame. refl;
  of_case_tests = λ ws o s frame. refl;
  of_return_with = λ ts s frame. refl;
  of_break_with = λ ts s frame. refl;
  of_next_with = λ ts s frame. refl;
  of_retry = λ s frame. refl;
  of_rescue = λ a o c s frame. refl;
  of_retry_in_body = retry_in_body;
  of_else = else_part;
  of_ensure = λ a c s frame w. refl;
  of_rescue_sequence = λ cs s frame. refl;
  of_ensure_sequence = λ a s frame. refl;
  of_method = λ x t on_self s frame. refl;
  of_class = λ o x t s frame. refl;
  of_module_named = λ x t s frame. refl;
  of_body = λ ps t s frame. refl;
}

pub eval_is_run : (files : Files) (fuel : ℕ) (t : Tree) (frame : Frame) → eval files fuel t frame ≡ run files fuel (body_of files fuel) t frame
eval_is_run files zero t frame = refl
eval_is_run files (suc fuel) t frame = refl
