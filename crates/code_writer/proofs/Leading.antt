-- A jump back that is led to its place, among what is kept of the steps.
use Rattle.std.proofs.Common.{◌≡◌, ◌<◌, ◌-◌, ℕ, zero, suc, List, [], ◌∷◌, length, map, get_or, arith, refl, ap, sym, ◌∙◌, Option, None, Some, slice_get, slice_set}
use Rattle.std.specs.Option.{option_map}
use Rattle.std.proofs.lemmas.List.{length-map, map-set}
use Rattle.std.proofs.lemmas.Option.{slice_get-map}
use Rattle.code_writer.specs.declared.writer.Branch.{Branch}
use Rattle.code_writer.specs.declared.writer.Written.{Written}
use Rattle.code_writer.specs.declared.writer.Written.TheVariants as written
use Rattle.code_writer.specs.Writing.{back, branch_of, step_of, set_over}

got : (items : List Written) (i : ℕ) (x : Written) → i < length items → x ≡ get_or items i x → slice_get items i ≡ Some x
got [] i x less is = absurd (omega (arith, less))
got (y ∷ ys) zero x less is = ap Some (sym is)
got (y ∷ ys) (suc i) x less is = got ys i x (omega (arith, less)) is

-- the step of a number, from what is known where it was looked at
pub got_as : (items seen : List Written) (i : ℕ) (x y : Written) → seen ≡ items → i < length seen → x ≡ get_or seen i x → x ≡ y → slice_get items i ≡ Some y
got_as items seen i x y same less is kind = ap (λ xs. slice_get xs i) (sym same) ∙ got seen i x less is ∙ ap Some kind

pub led : (items : List Written) (i len line m : ℕ) (b : Branch) → len ≡ length items → slice_get items i ≡ Some (written.Back line b m) → map step_of (slice_set items i (written.Back line b (len - i - 1))) ≡ set_over i (length (map step_of items) - suc i) (map step_of items) (slice_get (map step_of items) i)
led items i len line m b long is = map-set step_of items i (written.Back line b (len - i - 1)) ∙ ap (λ n. slice_set (map step_of items) i (back line (branch_of b) n)) count ∙ sym (ap (set_over i (length (map step_of items) - suc i) (map step_of items)) (slice_get-map step_of items i ∙ ap (option_map step_of) is))
  where
    count : len - i - 1 ≡ length (map step_of items) - suc i
    count = let e = length-map items step_of in omega (arith, e, long)

pub led_plain : (items : List Written) (i n : ℕ) (l : _) → slice_get items i ≡ Some (written.Plain l) → map step_of items ≡ set_over i n (map step_of items) (slice_get (map step_of items) i)
led_plain items i n l is = sym (ap (set_over i n (map step_of items)) (slice_get-map step_of items i ∙ ap (option_map step_of) is))

pub led_on : (items : List Written) (i n line m : ℕ) (b : Branch) → slice_get items i ≡ Some (written.On line b m) → map step_of items ≡ set_over i n (map step_of items) (slice_get (map step_of items) i)
led_on items i n line m b is = sym (ap (set_over i n (map step_of items)) (slice_get-map step_of items i ∙ ap (option_map step_of) is))

pub led_none : (items : List Written) (i n : ℕ) → slice_get items i ≡ None → map step_of items ≡ set_over i n (map step_of items) (slice_get (map step_of items) i)
led_none items i n is = sym (ap (set_over i n (map step_of items)) (slice_get-map step_of items i ∙ ap (option_map step_of) is))
