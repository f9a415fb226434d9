-- What each native does to the store, for any relation of stores that the few changes keep which natives make.
use Rattle.std.proofs.Common.{◌≡◌, ℕ, ℤ, pos, negsuc, Bool, true, false, refl, sym, subst, ap, List, [], ◌∷◌, ◌++◌, append_assoc, append-nil, length, Option, Some, None}
use Rattle.std.specs.Prelude.{◌+ℤ◌, ◌-ℤ◌, ◌*ℤ◌, neg_ℤ, int_lt, int_le}
use Rattle.ruby_meaning.specs.Natives.Whole.{place_in}
use Rattle.ruby_meaning.specs.Numbers.{closed_classes}
use Rattle.ruby_meaning.specs.Natives.Sorting.{in_order, by_themselves}
use Rattle.std.specs.Prelude.{⊤, map, not, nat_lt, nat_le}
use Rattle.std.proofs.lemmas.Option.{same_Some, none-some}
use Rattle.ruby_tree.specs.Names.{Bytes}
use Rattle.ruby_meaning.specs.Value.{Value, nil, yes, no, number, symbol_named, object, MethodBody, written, native, reader, writer, MethodRow, Class, Kind, string, elements, table, span, closed, plain, class_or_module, Object, Objects}
use Rattle.ruby_meaning.specs.Store.{new_object, new_string, kind_at, with_kind, frozen_now, is_frozen_at, is_one_of, ancestors, is_class_or_module, with_method}
use Rattle.ruby_meaning.specs.NativeName.{Native, object_equal, object_not, object_class, object_is_a, object_is_nil, object_responds, object_to_text, object_inspect, object_freeze, object_is_frozen, object_copy, object_new_table, nil_to_text, nil_inspect, nil_to_array, nil_to_integer, bool_to_text, bool_inspect, integer_add, integer_subtract, integer_multiply, integer_divide, integer_modulo, integer_power, integer_and, integer_or, integer_xor, integer_shift_left, integer_shift_right, integer_minus, integer_plus, integer_complement, integer_less, integer_at_most, integer_more, integer_at_least, integer_compare, integer_to_text, integer_inspect, integer_to_integer, integer_absolute, integer_is_even, integer_is_odd, integer_is_zero, integer_successor, string_add, string_repeat, string_equal, string_compare, string_less, string_at_most, string_more, string_at_least, string_index, string_size, string_byte_size, string_is_empty, string_upcase, string_downcase, string_capitalize, string_strip, string_chomp, string_starts_with, string_ends_with, string_includes, string_place_of, string_replace_first, string_replace_all, string_split, string_characters, string_lines, string_left_justify, string_right_justify, string_to_integer, string_to_text, string_to_symbol, string_inspect, string_append, symbol_to_text, symbol_to_symbol, symbol_size, symbol_inspect, array_size, array_is_empty, array_index, array_set_index, array_append, array_push, array_unshift, array_pop, array_shift, array_concat, array_add, array_subtract, array_unique, array_delete, array_delete_at, array_clear, array_reverse, array_first, array_last, array_sort, array_join, array_sort_pairs, hash_index, hash_set_index, hash_has_key, hash_delete, hash_keys, hash_values, hash_size, hash_is_empty, hash_merge, hash_clear, range_first, range_last, range_excludes_end, module_name, module_case_equal, module_superclass, module_include, module_attribute_reader, module_attribute_writer, module_attribute_accessor, class_allocate, control}
use Rattle.ruby_meaning.specs.Natives.{meaning_of}
use Rattle.ruby_meaning.specs.Native.{Answer, gives, raises}
use Rattle.ruby_meaning.specs.Natives.Reading.{Table, Span, as_number, as_symbol, as_text, as_array, as_table, as_span, as_class, as_module, module_found, if_module, elements_in, table_in, class_found, received, wanted, with_one, with_two, changed_if, changing, wants_texts, wants_symbols}
use Rattle.ruby_meaning.specs.Natives.OfArray.{with_elements}
use Rattle.ruby_meaning.specs.Natives.OfModule.{with_module, with_rows}
use Rattle.ruby_meaning.specs.Natives.OfObject as object_natives
use Rattle.ruby_meaning.specs.Natives.OfNil as nothing
use Rattle.ruby_meaning.specs.Natives.OfInteger as integer
use Rattle.ruby_meaning.specs.Natives.OfString as text
use Rattle.ruby_meaning.specs.Natives.OfArray as array
use Rattle.ruby_meaning.specs.Natives.Whole as whole
use Rattle.ruby_meaning.specs.Natives.Letters as letters
use Rattle.ruby_meaning.specs.Natives.OfModule as module_natives

-- an attribute's reader or writer, as natives make rows
abbrev pub is_attribute : MethodBody → Bool
is_attribute (written code) = false
is_attribute (native n) = false
is_attribute (reader x) = true
is_attribute (writer x) = true

abbrev pub AreAttributes : List MethodRow → Type 0
AreAttributes [] = ⊤
AreAttributes (r ∷ rows) = (is_attribute r.body ≡ true) × AreAttributes rows

readers_are : (xs : List Bytes) → AreAttributes (module_natives.reader_rows xs)
readers_are [] = tt
readers_are (x ∷ xs) = (refl, readers_are xs)

writers_are : (xs : List Bytes) → AreAttributes (module_natives.writer_rows xs)
writers_are [] = tt
writers_are (x ∷ xs) = (refl, writers_are xs)

accessors_are : (xs : List Bytes) → AreAttributes (module_natives.accessor_rows xs)
accessors_are [] = tt
accessors_are (x ∷ xs) = (refl, (refl, accessors_are xs))

-- The changes that natives make of a store.
pub record KeepsStores (K : Objects → Objects → Type 0) : Type 0 where
  pub same : (store : Objects) → K store store
  pub then_on : (s t u : Objects) → K s t → K t u → K s u
  pub behind : (store : Objects) (o : Object) → is_class_or_module o.kind ≡ false → K store (store ++ o ∷ [])
  pub with_elements : (store : Objects) (n : ℕ) (old new : List Value) → kind_at store n ≡ elements old → K store (with_kind store n (elements new))
  pub with_table : (store : Objects) (n : ℕ) (old new : List (Value × Value)) (d : Value) → kind_at store n ≡ table old d → K store (with_kind store n (table new d))
  pub frozen : (store : Objects) (n : ℕ) → K store (frozen_now store n)
  pub with_row : (store : Objects) (n : ℕ) (r : MethodRow) → is_attribute r.body ≡ true → is_class_or_module (kind_at store n) ≡ true → K store (with_method store n r)
  pub with_module : (store : Objects) (n m : ℕ) → is_class_or_module (kind_at store n) ≡ true → is_class_or_module (kind_at store m) ≡ true → is_one_of n (ancestors store m) ≡ false → K store (with_module store n m)
  -- a class stays one
  pub classes : (store next : Objects) (n : ℕ) → K store next → is_class_or_module (kind_at store n) ≡ true → is_class_or_module (kind_at next n) ≡ true

-- What a receiver or an argument of one kind is.

array_in : (n : ℕ) (k : Kind) (a : ℕ × List Value) → elements_in n k ≡ Some a → (n ≡ a.0) × (k ≡ elements a.1)
array_in n (elements vs) a h = (ap (λ x. x.0) (same_Some (n, vs) a h), ap (λ x. elements x.1) (same_Some (n, vs) a h))
array_in n (string f) a h = absurd (none-some a h)
array_in n (table ps d) a h = absurd (none-some a h)
array_in n (span i j e) a h = absurd (none-some a h)
array_in n (closed k) a h = absurd (none-some a h)
array_in n (plain c) a h = absurd (none-some a h)
array_in n (class_or_module c) a h = absurd (none-some a h)

array_kind : (store : Objects) (v : Value) (a : ℕ × List Value) → as_array store v ≡ Some a → kind_at store a.0 ≡ elements a.1
array_kind store (object n) a h = let x : (n ≡ a.0) × (kind_at store n ≡ elements a.1) = array_in n (kind_at store n) a h in subst (λ y. kind_at store y ≡ elements a.1) x.0 x.1
array_kind store nil a h = absurd (none-some a h)
array_kind store yes a h = absurd (none-some a h)
array_kind store no a h = absurd (none-some a h)
array_kind store (number i) a h = absurd (none-some a h)
array_kind store (symbol_named x) a h = absurd (none-some a h)

table_kind_in : (n : ℕ) (k : Kind) (t : Table) → table_in n k ≡ Some t → (n ≡ t.number) × (k ≡ table t.pairs t.default)
table_kind_in n (table ps d) t h =
    let same : record { number = n; pairs = ps; default = d } ≡ t = same_Some _ t h in
    (ap (λ x. x.number) same, ap (λ x. table x.pairs x.default) same)
table_kind_in n (string f) t h = absurd (none-some t h)
table_kind_in n (elements vs) t h = absurd (none-some t h)
table_kind_in n (span i j e) t h = absurd (none-some t h)
table_kind_in n (closed k) t h = absurd (none-some t h)
table_kind_in n (plain c) t h = absurd (none-some t h)
table_kind_in n (class_or_module c) t h = absurd (none-some t h)

table_kind : (store : Objects) (v : Value) (t : Table) → as_table store v ≡ Some t → kind_at store t.number ≡ table t.pairs t.default
table_kind store (object n) t h = let x : (n ≡ t.number) × (kind_at store n ≡ table t.pairs t.default) = table_kind_in n (kind_at store n) t h in subst (λ y. kind_at store y ≡ table t.pairs t.default) x.0 x.1
table_kind store nil t h = absurd (none-some t h)
table_kind store yes t h = absurd (none-some t h)
table_kind store no t h = absurd (none-some t h)
table_kind store (number i) t h = absurd (none-some t h)
table_kind store (symbol_named x) t h = absurd (none-some t h)

class_in_kind : (n : ℕ) (k : Kind) (c : ℕ × Class) → class_found n k ≡ Some c → (n ≡ c.0) × (is_class_or_module k ≡ true)
class_in_kind n (class_or_module d) c h = (ap (λ x. x.0) (same_Some (n, d) c h), refl)
class_in_kind n (string f) c h = absurd (none-some c h)
class_in_kind n (elements vs) c h = absurd (none-some c h)
class_in_kind n (table ps d) c h = absurd (none-some c h)
class_in_kind n (span i j e) c h = absurd (none-some c h)
class_in_kind n (closed k) c h = absurd (none-some c h)
class_in_kind n (plain d) c h = absurd (none-some c h)

class_kind : (store : Objects) (v : Value) (c : ℕ × Class) → as_class store v ≡ Some c → is_class_or_module (kind_at store c.0) ≡ true
class_kind store (object n) c h = let x : (n ≡ c.0) × (is_class_or_module (kind_at store n) ≡ true) = class_in_kind n (kind_at store n) c h in subst (λ y. is_class_or_module (kind_at store y) ≡ true) x.0 x.1
class_kind store nil c h = absurd (none-some c h)
class_kind store yes c h = absurd (none-some c h)
class_kind store no c h = absurd (none-some c h)
class_kind store (number i) c h = absurd (none-some c h)
class_kind store (symbol_named x) c h = absurd (none-some c h)

module_in : (c : ℕ × Class) (t : Bool) (m : ℕ) → if_module c t ≡ Some m → c.0 ≡ m
module_in c true m h = same_Some c.0 m h
module_in c false m h = absurd (none-some m h)

module_kind_by : (store : Objects) (v : Value) (o : Option (ℕ × Class)) (m : ℕ) → as_class store v ≡ o → module_found o ≡ Some m → is_class_or_module (kind_at store m) ≡ true
module_kind_by store v None m e h = absurd (none-some m h)
module_kind_by store v (Some c) m e h = subst (λ y. is_class_or_module (kind_at store y) ≡ true) (module_in c c.1.is_module m h) (class_kind store v c e)

module_kind : (store : Objects) (v : Value) (m : ℕ) → as_module store v ≡ Some m → is_class_or_module (kind_at store m) ≡ true
module_kind store v m h = module_kind_by store v (as_class store v) m refl h

module _ (K : Objects → Objects → Type 0) (keeps : KeepsStores K) where
  -- what an answer does to the store
  abbrev pub Fine : Objects → Answer → Type 0
  Fine store (gives cells next v) = K store next
  Fine store (raises c message) = ⊤

  got : {A : Type 0} (store : Objects) (o : Option A) (go : A → Answer) → ((a : A) → o ≡ Some a → Fine store (go a)) → Fine store (received store o go)
  got store None go h = keeps.same store
  got store (Some a) go h = h a refl

  want : {A : Type 0} (name : Bytes) (store : Objects) (v : Value) (o : Option A) (go : A → Answer) → ((a : A) → o ≡ Some a → Fine store (go a)) → Fine store (wanted name store v o go)
  want name store v None go h = tt
  want name store v (Some a) go h = h a refl

  one : (store : Objects) (vs : List Value) (go : Value → Answer) → ((v : Value) → Fine store (go v)) → Fine store (with_one store vs go)
  one store [] go h = keeps.same store
  one store (a ∷ []) go h = h a
  one store (a ∷ b ∷ vs) go h = keeps.same store

  two : (store : Objects) (vs : List Value) (go : Value → Value → Answer) → ((v w : Value) → Fine store (go v w)) → Fine store (with_two store vs go)
  two store [] go h = keeps.same store
  two store (a ∷ []) go h = keeps.same store
  two store (a ∷ b ∷ []) go h = h a b
  two store (a ∷ b ∷ c ∷ vs) go h = keeps.same store

  unless_frozen : (t : Bool) (store : Objects) (n : ℕ) (go : Objects → Answer) → Fine store (go store) → Fine store (changed_if t store n go)
  unless_frozen true store n go h = tt
  unless_frozen false store n go h = h

  -- a new object that is no class
  new_one : (store : Objects) (k : Kind) → is_class_or_module k ≡ false → K store (store ++ new_object k ∷ [])
  new_one store k h = keeps.behind store (new_object k) h

  new_text : (store : Objects) (f : Bytes) → K store (store ++ new_string f ∷ [])
  new_text store f = keeps.behind store (new_string f) refl

  -- Strings behind the others
  new_texts : (store : Objects) (fs : List Bytes) → K store (store ++ map new_string fs)
  new_texts store [] = subst (λ x. K store x) (sym (append-nil store)) (keeps.same store)
  new_texts store (f ∷ fs) = subst (λ x. K store x) (append_assoc store (new_string f ∷ []) (map new_string fs)) (keeps.then_on store (store ++ new_string f ∷ []) ((store ++ new_string f ∷ []) ++ map new_string fs) (new_text store f) (new_texts (store ++ new_string f ∷ []) fs))

  all_new_texts : (store : Objects) (fs : List Bytes) → Fine store (text.makes_strings store fs)
  all_new_texts store fs = keeps.then_on store (store ++ map new_string fs) _ (new_texts store fs) (new_one (store ++ map new_string fs) _ refl)

  -- several texts or symbols among the arguments
  want_texts : (store : Objects) (vs : List Value) (go : List Bytes → Answer) → ((fs : List Bytes) → Fine store (go fs)) → Fine store (wants_texts store vs go)
  want_texts store [] go h = h []
  want_texts store (v ∷ vs) go h = want _ store v (as_text store v) _ (λ f e. want_texts store vs (λ fs. go (f ∷ fs)) (λ fs. h (f ∷ fs)))

  want_symbols : (store : Objects) (vs : List Value) (go : List Bytes → Answer) → ((fs : List Bytes) → Fine store (go fs)) → Fine store (wants_symbols store vs go)
  want_symbols store [] go h = h []
  want_symbols store (v ∷ vs) go h = want _ store v (as_symbol v) _ (λ f e. want_symbols store vs (λ fs. go (f ∷ fs)) (λ fs. h (f ∷ fs)))

  want_pairs : (store : Objects) (vs : List Value) (go : List (Value × Value) → Answer) → ((ps : List (Value × Value)) → Fine store (go ps)) → Fine store (array.wants_pairs store vs go)
  want_pairs store [] go h = h []
  want_pairs store (v ∷ vs) go h = want _ store v (as_array store v) _ (λ a e. want_pairs store vs (λ ps. go (array.pair_of a.1 ∷ ps)) (λ ps. h (array.pair_of a.1 ∷ ps)))

  -- rows of one class
  rows : (store : Objects) (n : ℕ) (rs : List MethodRow) → AreAttributes rs → is_class_or_module (kind_at store n) ≡ true → K store (with_rows store n rs)
  rows store n [] are h = keeps.same store
  rows store n (r ∷ rs) are h =
      let first : K store (with_method store n r) = keeps.with_row store n r are.0 h in
      keeps.then_on store (with_method store n r) (with_rows (with_method store n r) n rs) first (rows (with_method store n r) n rs are.1 (keeps.classes store (with_method store n r) n first h))

  -- Shapes of natives.

  changes_array : (store : Objects) (v : Value) (go : Objects → ℕ → List Value → Answer) → ((n : ℕ) (es : List Value) → kind_at store n ≡ elements es → Fine store (go store n es))
      → Fine store (received store (as_array store v) (λ a. changing store a.0 (λ s. go s a.0 a.1)))
  changes_array store v go h = got store (as_array store v) _ (λ a e. unless_frozen (is_frozen_at store a.0) store a.0 (λ s. go s a.0 a.1) (h a.0 a.1 (array_kind store v a e)))

  changes_table : (store : Objects) (v : Value) (go : Objects → Table → Answer) → ((t : Table) → kind_at store t.number ≡ table t.pairs t.default → Fine store (go store t)) → Fine store (received store (as_table store v) (λ t. changing store t.number (λ s. go s t)))
  changes_table store v go h = got store (as_table store v) _ (λ t e. unless_frozen (is_frozen_at store t.number) store t.number (λ s. go s t) (h t (table_kind store v t e)))

  number_fine : (store : Objects) (i : ℤ) → Fine store (integer.checked store i)
  number_fine store i = by (whole.fits i)
    where
      by : (t : Bool) → Fine store (integer.number_if t store i)
      by true = keeps.same store
      by false = tt

  coerce_fine : (store : Objects) (w : Value) (o : Option ℤ) (go : ℤ → Answer) → ((b : ℤ) → Fine store (go b)) → Fine store (integer.coerced store w o go)
  coerce_fine store w None go h = tt
  coerce_fine store w (Some b) go h = h b

  division_fine : (t : Bool) (store : Objects) (f : ℤ → ℤ → ℤ) (a b : ℤ) → Fine store (integer.divided_if t store f a b)
  division_fine true store f a b = tt
  division_fine false store f a b = number_fine store (f a b)

  power_fine : (store : Objects) (a b : ℤ) → Fine store (integer.power_with store a b)
  power_fine store a (pos n) = number_fine store (whole.power a n)
  power_fine store a (negsuc n) = tt

  compare_fine : (f : ℤ → ℤ → Bool) (store : Objects) (a : ℤ) (w : Value) (o : Option ℤ) → Fine store (integer.compared f store a w o)
  compare_fine f store a w None = tt
  compare_fine f store a w (Some b) = keeps.same store

  order_fine : (store : Objects) (a : ℤ) (o : Option ℤ) → Fine store (integer.ordered store a o)
  order_fine store a None = keeps.same store
  order_fine store a (Some b) = keeps.same store

  repeat_fine : (store : Objects) (t : Bytes) (k : ℤ) → Fine store (text.repeated store t k)
  repeat_fine store t (pos n) = new_text store (text.times n t)
  repeat_fine store t (negsuc n) = tt

  text_order_fine : (store : Objects) (t : Bytes) (o : Option Bytes) → Fine store (text.ordered store t o)
  text_order_fine store t None = keeps.same store
  text_order_fine store t (Some u) = keeps.same store

  text_compare_fine : (f : Bytes → Bytes → Bool) (store : Objects) (t : Bytes) (w : Value) (o : Option Bytes) → Fine store (text.compared f store t w o)
  text_compare_fine f store t w None = tt
  text_compare_fine f store t w (Some u) = keeps.same store

  text_part_fine : (t : Bool) (store : Objects) (f : Bytes) → Fine store (text.part_if t store f)
  text_part_fine true store f = new_text store f
  text_part_fine false store f = keeps.same store

  character_fine : (store : Objects) (t : Bytes) (o : Option ℕ) → Fine store (text.character_at store t o)
  character_fine store t None = keeps.same store
  character_fine store t (Some k) = text_part_fine (nat_lt k (letters.character_count t)) store (letters.part_of k 1 t)

  characters_fine : (store : Objects) (t : Bytes) (o o' : Option ℕ) → Fine store (text.characters_at store t o o')
  characters_fine store t (Some k) (Some n) = text_part_fine (nat_le k (letters.character_count t)) store (letters.part_of k n t)
  characters_fine store t (Some k) None = keeps.same store
  characters_fine store t None (Some n) = keeps.same store
  characters_fine store t None None = keeps.same store

  text_index_fine : (store : Objects) (t : Bytes) (vs : List Value) → Fine store (text.indexed store t vs)
  text_index_fine store t [] = keeps.same store
  text_index_fine store t (i ∷ []) = want _ store i (as_number i) _ (λ a e. character_fine store t _)
  text_index_fine store t (i ∷ n ∷ []) = want _ store i (as_number i) _ (λ a e. want _ store n (as_number n) _ (λ b f. characters_fine store t _ _))
  text_index_fine store t (i ∷ n ∷ m ∷ vs) = keeps.same store

  place_fine : (store : Objects) (o : Option ℕ) → Fine store (text.place_answer store o)
  place_fine store None = keeps.same store
  place_fine store (Some k) = keeps.same store

  replace_fine : (change : Bytes → Bytes → Bytes → Bytes) (store : Objects) (t f r : Bytes) → Fine store (text.replaced change store t f r)
  replace_fine change store t [] r = tt
  replace_fine change store t (b ∷ f) r = new_text store (change (b ∷ f) r t)

  split_fine : (store : Objects) (t : Bytes) (vs : List Value) → Fine store (text.split_with store t vs)
  split_fine store t [] = all_new_texts store _
  split_fine store t (w ∷ []) = want _ store w (as_text store w) _ (λ f e. all_new_texts store _)
  split_fine store t (w ∷ u ∷ vs) = keeps.same store

  bool_fine : (store : Objects) (v : Value) (vs : List Value) → Fine store (nothing.bool_text store v vs)
  bool_fine store nil vs = keeps.same store
  bool_fine store yes vs = new_text store _
  bool_fine store no vs = new_text store _
  bool_fine store (number i) vs = keeps.same store
  bool_fine store (symbol_named x) vs = keeps.same store
  bool_fine store (object n) vs = keeps.same store

  freeze_fine : (store : Objects) (v : Value) (vs : List Value) → Fine store (object_natives.freeze store v vs)
  freeze_fine store nil vs = keeps.same store
  freeze_fine store yes vs = keeps.same store
  freeze_fine store no vs = keeps.same store
  freeze_fine store (number i) vs = keeps.same store
  freeze_fine store (symbol_named x) vs = keeps.same store
  freeze_fine store (object n) vs = keeps.frozen store n

  copied_fine : (store : Objects) (n : ℕ) (k : Kind) → Fine store (object_natives.copied store n k)
  copied_fine store n (elements vs) = new_one store _ refl
  copied_fine store n (table ps d) = new_one store _ refl
  copied_fine store n (plain c) = keeps.behind store _ refl
  copied_fine store n (string f) = keeps.same store
  copied_fine store n (span a b e) = keeps.same store
  copied_fine store n (closed k) = keeps.same store
  copied_fine store n (class_or_module c) = keeps.same store

  copy_fine : (store : Objects) (v : Value) (vs : List Value) → Fine store (object_natives.copy store v vs)
  copy_fine store nil vs = keeps.same store
  copy_fine store yes vs = keeps.same store
  copy_fine store no vs = keeps.same store
  copy_fine store (number i) vs = keeps.same store
  copy_fine store (symbol_named x) vs = keeps.same store
  copy_fine store (object n) vs = copied_fine store n (kind_at store n)

  part_fine : (t : Bool) (store : Objects) (es : List Value) → Fine store (array.part_if t store es)
  part_fine true store es = new_one store _ refl
  part_fine false store es = keeps.same store

  part_at_fine : (store : Objects) (es : List Value) (o o' : Option ℕ) → Fine store (array.part_at store es o o')
  part_at_fine store es (Some k) (Some n) = part_fine (nat_le k (length es)) store _
  part_at_fine store es (Some k) None = keeps.same store
  part_at_fine store es None (Some n) = keeps.same store
  part_at_fine store es None None = keeps.same store

  part_of_span_fine : (store : Objects) (es : List Value) (r : Span) (o : Option ℕ) → Fine store (array.part_of_span store es r o)
  part_of_span_fine store es r None = keeps.same store
  part_of_span_fine store es r (Some k) = part_at_fine store es (Some k) (Some (array.span_count (length es) r k))

  index_by_fine : (store : Objects) (es : List Value) (v : Value) (o : Option Span) → Fine store (array.index_by store es v o)
  index_by_fine store es v (Some r) = part_of_span_fine store es r _
  index_by_fine store es v None = want _ store v (as_number v) _ (λ i e. keeps.same store)

  index_fine : (store : Objects) (es vs : List Value) → Fine store (array.indexed store es vs)
  index_fine store es [] = keeps.same store
  index_fine store es (v ∷ []) = index_by_fine store es v (as_span store v)
  index_fine store es (v ∷ w ∷ []) = want _ store v (as_number v) _ (λ i e. want _ store w (as_number w) _ (λ n f. part_at_fine store es _ _))
  index_fine store es (v ∷ w ∷ u ∷ vs) = keeps.same store

  set_if_fine : (t : Bool) (store : Objects) (n : ℕ) (es : List Value) (k : ℕ) (v : Value) → kind_at store n ≡ elements es → Fine store (array.set_if t store n es k v)
  set_if_fine true store n es k v e = keeps.with_elements store n es _ e
  set_if_fine false store n es k v e = keeps.with_elements store n es _ e

  set_fine : (store : Objects) (n : ℕ) (es : List Value) (v : Value) (o : Option ℕ) → kind_at store n ≡ elements es → Fine store (array.set_at store n es v o)
  set_fine store n es v None e = tt
  set_fine store n es v (Some k) e = set_if_fine (nat_lt k (length es)) store n es k v e

  remove_fine : (store : Objects) (n : ℕ) (es : List Value) (o : Option ℕ) → kind_at store n ≡ elements es → Fine store (array.removed store n es o)
  remove_fine store n es None e = keeps.same store
  remove_fine store n es (Some k) e = keeps.with_elements store n es _ e

  sorted_fine : (store : Objects) (o : Option (List Value)) → Fine store (array.ordered store o)
  sorted_fine store None = tt
  sorted_fine store (Some es) = new_one store _ refl

  unless_there_fine : (t : Bool) (store : Objects) (n m : ℕ) → K store (with_module store n m) → Fine store (module_natives.unless_there t store n m)
  unless_there_fine true store n m h = keeps.same store
  unless_there_fine false store n m h = h

  include_fine : (store : Objects) (n m : ℕ) (t : Bool) → is_one_of n (ancestors store m) ≡ t → is_class_or_module (kind_at store n) ≡ true → is_class_or_module (kind_at store m) ≡ true → Fine store (module_natives.unless_cyclic t store n m)
  include_fine store n m true e is other = tt
  include_fine store n m false e is other = unless_there_fine (is_one_of m (ancestors store n)) store n m (keeps.with_module store n m is other e)

  allocate_fine : (store : Objects) (n : ℕ) (t : Bool) → Fine store (module_natives.allocated t store n)
  allocate_fine store n true = tt
  allocate_fine store n false = new_one store _ refl

  pub native_keeps : (n : Native) (store : Objects) (v : Value) (vs : List Value) → Fine store (meaning_of n store v vs)
  native_keeps object_equal store v vs = one store vs _ (λ w. keeps.same store)
  native_keeps object_not store v vs = keeps.same store
  native_keeps object_class store v vs = keeps.same store
  native_keeps object_is_a store v vs = one store vs _ (λ w. want _ store w (as_class store w) _ (λ c e. keeps.same store))
  native_keeps object_is_nil store v vs = keeps.same store
  native_keeps object_responds store v vs = one store vs _ (λ w. want _ store w (as_symbol w) _ (λ x e. keeps.same store))
  native_keeps object_to_text store v vs = new_text store _
  native_keeps object_inspect store v vs = new_text store _
  native_keeps object_freeze store v vs = freeze_fine store v vs
  native_keeps object_is_frozen store v vs = keeps.same store
  native_keeps object_copy store v vs = copy_fine store v vs
  native_keeps object_new_table store v vs = one store vs _ (λ w. new_one store _ refl)
  native_keeps nil_to_text store v vs = new_text store _
  native_keeps nil_inspect store v vs = new_text store _
  native_keeps nil_to_array store v vs = new_one store _ refl
  native_keeps nil_to_integer store v vs = keeps.same store
  native_keeps bool_to_text store v vs = bool_fine store v vs
  native_keeps bool_inspect store v vs = bool_fine store v vs
  native_keeps integer_add store v vs = got store (as_number v) _ (λ a e. one store vs _ (λ w. coerce_fine store w (as_number w) _ (λ b. number_fine store (a +ℤ b))))
  native_keeps integer_subtract store v vs = got store (as_number v) _ (λ a e. one store vs _ (λ w. coerce_fine store w (as_number w) _ (λ b. number_fine store (a -ℤ b))))
  native_keeps integer_multiply store v vs = got store (as_number v) _ (λ a e. one store vs _ (λ w. coerce_fine store w (as_number w) _ (λ b. number_fine store (a *ℤ b))))
  native_keeps integer_divide store v vs = got store (as_number v) _ (λ a e. one store vs _ (λ w. coerce_fine store w (as_number w) _ (λ b. division_fine (whole.is_zero b) store whole.quotient a b)))
  native_keeps integer_modulo store v vs = got store (as_number v) _ (λ a e. one store vs _ (λ w. coerce_fine store w (as_number w) _ (λ b. division_fine (whole.is_zero b) store whole.remainder a b)))
  native_keeps integer_power store v vs = got store (as_number v) _ (λ a e. one store vs _ (λ w. coerce_fine store w (as_number w) _ (λ b. power_fine store a b)))
  native_keeps integer_and store v vs = got store (as_number v) _ (λ a e. one store vs _ (λ w. coerce_fine store w (as_number w) _ (λ b. number_fine store (whole.bits_and a b))))
  native_keeps integer_or store v vs = got store (as_number v) _ (λ a e. one store vs _ (λ w. coerce_fine store w (as_number w) _ (λ b. number_fine store (whole.bits_or a b))))
  native_keeps integer_xor store v vs = got store (as_number v) _ (λ a e. one store vs _ (λ w. coerce_fine store w (as_number w) _ (λ b. number_fine store (whole.bits_xor a b))))
  native_keeps integer_shift_left store v vs = got store (as_number v) _ (λ a e. one store vs _ (λ w. coerce_fine store w (as_number w) _ (λ b. number_fine store (whole.shifted a b))))
  native_keeps integer_shift_right store v vs = got store (as_number v) _ (λ a e. one store vs _ (λ w. coerce_fine store w (as_number w) _ (λ b. number_fine store (whole.shifted a (neg_ℤ b)))))
  native_keeps integer_minus store v vs = got store (as_number v) _ (λ a e. number_fine store (neg_ℤ a))
  native_keeps integer_plus store v vs = got store (as_number v) _ (λ a e. keeps.same store)
  native_keeps integer_complement store v vs = got store (as_number v) _ (λ a e. number_fine store (whole.bits_not a))
  native_keeps integer_less store v vs = got store (as_number v) _ (λ a e. one store vs _ (λ w. compare_fine int_lt store a w (as_number w)))
  native_keeps integer_at_most store v vs = got store (as_number v) _ (λ a e. one store vs _ (λ w. compare_fine int_le store a w (as_number w)))
  native_keeps integer_more store v vs = got store (as_number v) _ (λ a e. one store vs _ (λ w. compare_fine (λ a b. int_lt b a) store a w (as_number w)))
  native_keeps integer_at_least store v vs = got store (as_number v) _ (λ a e. one store vs _ (λ w. compare_fine (λ a b. int_le b a) store a w (as_number w)))
  native_keeps integer_compare store v vs = got store (as_number v) _ (λ a e. one store vs _ (λ w. order_fine store a (as_number w)))
  native_keeps integer_to_text store v vs = got store (as_number v) _ (λ a e. new_text store _)
  native_keeps integer_inspect store v vs = got store (as_number v) _ (λ a e. new_text store _)
  native_keeps integer_to_integer store v vs = got store (as_number v) _ (λ a e. keeps.same store)
  native_keeps integer_absolute store v vs = got store (as_number v) _ (λ a e. number_fine store (whole.absolute a))
  native_keeps integer_is_even store v vs = got store (as_number v) _ (λ a e. keeps.same store)
  native_keeps integer_is_odd store v vs = got store (as_number v) _ (λ a e. keeps.same store)
  native_keeps integer_is_zero store v vs = got store (as_number v) _ (λ a e. keeps.same store)
  native_keeps integer_successor store v vs = got store (as_number v) _ (λ a e. number_fine store (a +ℤ pos 1))
  native_keeps string_add store v vs = got store (as_text store v) _ (λ a e. one store vs _ (λ w. want _ store w (as_text store w) _ (λ f i. new_text store _)))
  native_keeps string_repeat store v vs = got store (as_text store v) _ (λ a e. one store vs _ (λ w. want _ store w (as_number w) _ (λ k i. repeat_fine store a k)))
  native_keeps string_equal store v vs = one store vs _ (λ w. keeps.same store)
  native_keeps string_compare store v vs = got store (as_text store v) _ (λ a e. one store vs _ (λ w. text_order_fine store a (as_text store w)))
  native_keeps string_less store v vs = got store (as_text store v) _ (λ a e. one store vs _ (λ w. text_compare_fine letters.is_below store a w (as_text store w)))
  native_keeps string_at_most store v vs = got store (as_text store v) _ (λ a e. one store vs _ (λ w. text_compare_fine (λ t u. not (letters.is_below u t)) store a w (as_text store w)))
  native_keeps string_more store v vs = got store (as_text store v) _ (λ a e. one store vs _ (λ w. text_compare_fine (λ t u. letters.is_below u t) store a w (as_text store w)))
  native_keeps string_at_least store v vs = got store (as_text store v) _ (λ a e. one store vs _ (λ w. text_compare_fine (λ t u. not (letters.is_below t u)) store a w (as_text store w)))
  native_keeps string_index store v vs = got store (as_text store v) _ (λ a e. text_index_fine store a vs)
  native_keeps string_size store v vs = got store (as_text store v) _ (λ a e. keeps.same store)
  native_keeps string_byte_size store v vs = got store (as_text store v) _ (λ a e. keeps.same store)
  native_keeps string_is_empty store v vs = got store (as_text store v) _ (λ a e. keeps.same store)
  native_keeps string_upcase store v vs = got store (as_text store v) _ (λ a e. new_text store _)
  native_keeps string_downcase store v vs = got store (as_text store v) _ (λ a e. new_text store _)
  native_keeps string_capitalize store v vs = got store (as_text store v) _ (λ a e. new_text store _)
  native_keeps string_strip store v vs = got store (as_text store v) _ (λ a e. new_text store _)
  native_keeps string_chomp store v vs = got store (as_text store v) _ (λ a e. new_text store _)
  native_keeps string_starts_with store v vs = got store (as_text store v) _ (λ a e. one store vs _ (λ w. want _ store w (as_text store w) _ (λ f i. keeps.same store)))
  native_keeps string_ends_with store v vs = got store (as_text store v) _ (λ a e. one store vs _ (λ w. want _ store w (as_text store w) _ (λ f i. keeps.same store)))
  native_keeps string_includes store v vs = got store (as_text store v) _ (λ a e. one store vs _ (λ w. want _ store w (as_text store w) _ (λ f i. keeps.same store)))
  native_keeps string_place_of store v vs = got store (as_text store v) _ (λ a e. one store vs _ (λ w. want _ store w (as_text store w) _ (λ f i. place_fine store (letters.first_character f a))))
  native_keeps string_replace_first store v vs = got store (as_text store v) _ (λ a e. two store vs _ (λ w u. want _ store w (as_text store w) _ (λ f i. want _ store u (as_text store u) _ (λ r j. replace_fine letters.first_replaced store a f r))))
  native_keeps string_replace_all store v vs = got store (as_text store v) _ (λ a e. two store vs _ (λ w u. want _ store w (as_text store w) _ (λ f i. want _ store u (as_text store u) _ (λ r j. replace_fine (λ f r. letters.all_replaced f r 0) store a f r))))
  native_keeps string_split store v vs = got store (as_text store v) _ (λ a e. split_fine store a vs)
  native_keeps string_characters store v vs = got store (as_text store v) _ (λ a e. all_new_texts store (letters.characters a))
  native_keeps string_lines store v vs = got store (as_text store v) _ (λ a e. all_new_texts store (letters.lines_of a))
  native_keeps string_left_justify store v vs = got store (as_text store v) _ (λ a e. one store vs _ (λ w. want _ store w (as_number w) _ (λ k i. new_text store _)))
  native_keeps string_right_justify store v vs = got store (as_text store v) _ (λ a e. one store vs _ (λ w. want _ store w (as_number w) _ (λ k i. new_text store _)))
  native_keeps string_to_integer store v vs = got store (as_text store v) _ (λ a e. number_fine store (letters.number_in a))
  native_keeps string_to_text store v vs = keeps.same store
  native_keeps string_to_symbol store v vs = got store (as_text store v) _ (λ a e. keeps.same store)
  native_keeps string_inspect store v vs = got store (as_text store v) _ (λ a e. new_text store _)
  native_keeps string_append store v vs = tt
  native_keeps symbol_to_text store v vs = got store (as_symbol v) _ (λ a e. new_text store _)
  native_keeps symbol_to_symbol store v vs = got store (as_symbol v) _ (λ a e. keeps.same store)
  native_keeps symbol_size store v vs = got store (as_symbol v) _ (λ a e. keeps.same store)
  native_keeps symbol_inspect store v vs = got store (as_symbol v) _ (λ a e. new_text store _)
  native_keeps array_size store v vs = got store (as_array store v) _ (λ a e. keeps.same store)
  native_keeps array_is_empty store v vs = got store (as_array store v) _ (λ a e. keeps.same store)
  native_keeps array_index store v vs = got store (as_array store v) _ (λ a e. index_fine store a.1 vs)
  native_keeps array_set_index store v vs = changes_array store v _ (λ n es e. two store vs _ (λ w u. want _ store w (as_number w) _ (λ k i. set_fine store n es u (place_in (length es) k) e)))
  native_keeps array_append store v vs = changes_array store v _ (λ n es e. one store vs _ (λ w. keeps.with_elements store n es _ e))
  native_keeps array_push store v vs = changes_array store v _ (λ n es e. keeps.with_elements store n es _ e)
  native_keeps array_unshift store v vs = changes_array store v _ (λ n es e. keeps.with_elements store n es _ e)
  native_keeps array_pop store v vs = changes_array store v _ (λ n es e. keeps.with_elements store n es _ e)
  native_keeps array_shift store v vs = changes_array store v _ (λ n es e. keeps.with_elements store n es _ e)
  native_keeps array_concat store v vs = changes_array store v _ (λ n es e. one store vs _ (λ w. want _ store w (as_array store w) _ (λ b i. keeps.with_elements store n es _ e)))
  native_keeps array_add store v vs = got store (as_array store v) _ (λ a e. one store vs _ (λ w. want _ store w (as_array store w) _ (λ b i. new_one store _ refl)))
  native_keeps array_subtract store v vs = got store (as_array store v) _ (λ a e. one store vs _ (λ w. want _ store w (as_array store w) _ (λ b i. new_one store _ refl)))
  native_keeps array_unique store v vs = got store (as_array store v) _ (λ a e. new_one store _ refl)
  native_keeps array_delete store v vs = changes_array store v _ (λ n es e. one store vs _ (λ w. keeps.with_elements store n es _ e))
  native_keeps array_delete_at store v vs = changes_array store v _ (λ n es e. one store vs _ (λ w. want _ store w (as_number w) _ (λ k i. remove_fine store n es (place_in (length es) k) e)))
  native_keeps array_clear store v vs = changes_array store v _ (λ n es e. keeps.with_elements store n es _ e)
  native_keeps array_reverse store v vs = got store (as_array store v) _ (λ a e. new_one store _ refl)
  native_keeps array_first store v vs = got store (as_array store v) _ (λ a e. keeps.same store)
  native_keeps array_last store v vs = got store (as_array store v) _ (λ a e. keeps.same store)
  native_keeps array_sort store v vs = got store (as_array store v) _ (λ a e. sorted_fine store (in_order store (by_themselves a.1)))
  native_keeps array_join store v vs = got store (as_array store v) _ (λ a e. one store vs _ (λ w. want _ store w (as_text store w) _ (λ f i. want_texts store a.1 _ (λ fs. new_text store _))))
  native_keeps array_sort_pairs store v vs = got store (as_array store v) _ (λ a e. want_pairs store a.1 _ (λ ps. sorted_fine store (in_order store ps)))
  native_keeps hash_index store v vs = got store (as_table store v) _ (λ a e. one store vs _ (λ w. keeps.same store))
  native_keeps hash_set_index store v vs = changes_table store v _ (λ t e. two store vs _ (λ w u. keeps.with_table store t.number t.pairs _ t.default e))
  native_keeps hash_has_key store v vs = got store (as_table store v) _ (λ a e. one store vs _ (λ w. keeps.same store))
  native_keeps hash_delete store v vs = changes_table store v _ (λ t e. one store vs _ (λ w. keeps.with_table store t.number t.pairs _ t.default e))
  native_keeps hash_keys store v vs = got store (as_table store v) _ (λ a e. new_one store _ refl)
  native_keeps hash_values store v vs = got store (as_table store v) _ (λ a e. new_one store _ refl)
  native_keeps hash_size store v vs = got store (as_table store v) _ (λ a e. keeps.same store)
  native_keeps hash_is_empty store v vs = got store (as_table store v) _ (λ a e. keeps.same store)
  native_keeps hash_merge store v vs = got store (as_table store v) _ (λ a e. one store vs _ (λ w. want _ store w (as_table store w) _ (λ u i. new_one store _ refl)))
  native_keeps hash_clear store v vs = changes_table store v _ (λ t e. keeps.with_table store t.number t.pairs _ t.default e)
  native_keeps range_first store v vs = got store (as_span store v) _ (λ a e. keeps.same store)
  native_keeps range_last store v vs = got store (as_span store v) _ (λ a e. keeps.same store)
  native_keeps range_excludes_end store v vs = got store (as_span store v) _ (λ a e. keeps.same store)
  native_keeps module_name store v vs = got store (as_class store v) _ (λ a e. new_text store _)
  native_keeps module_case_equal store v vs = got store (as_class store v) _ (λ a e. one store vs _ (λ w. keeps.same store))
  native_keeps module_superclass store v vs = got store (as_class store v) _ (λ a e. keeps.same store)
  native_keeps module_include store v vs = got store (as_class store v) _ (λ a e. one store vs _ (λ w. want _ store w (as_module store w) _ (λ m i. include_fine store a.0 m (is_one_of a.0 (ancestors store m)) refl (class_kind store v a e) (module_kind store w m i))))
  native_keeps module_attribute_reader store v vs = got store (as_class store v) _ (λ a e. want_symbols store vs _ (λ xs. rows store a.0 (module_natives.reader_rows xs) (readers_are xs) (class_kind store v a e)))
  native_keeps module_attribute_writer store v vs = got store (as_class store v) _ (λ a e. want_symbols store vs _ (λ xs. rows store a.0 (module_natives.writer_rows xs) (writers_are xs) (class_kind store v a e)))
  native_keeps module_attribute_accessor store v vs = got store (as_class store v) _ (λ a e. want_symbols store vs _ (λ xs. rows store a.0 (module_natives.accessor_rows xs) (accessors_are xs) (class_kind store v a e)))
  native_keeps class_allocate store v vs = got store (as_class store v) _ (λ a e. allocate_fine store a.0 (is_one_of a.0 closed_classes))
  native_keeps (control c) store v vs = keeps.same store
