-- What a call that makes or changes an object answers and leaves.
use Rattle.std.specs.Prelude.{◌≡◌, ℕ, ◌+◌, ◌<◌, ◌≤◌, Bool, [], ◌∷◌, ◌++◌, length, Option, Result, Ok, Err}
use Rattle.std.specs.Option.{option_map}
use Rattle.ruby_meaning.specs.Value as meant
use Rattle.ruby_meaning.specs.Store.{cell_limit, class_cells, kind_at, new_object, next_number, with_kind}
use Rattle.store_values.specs.declared.faults.StoreFault.{StoreFault}
use Rattle.store_values.specs.declared.faults.StoreFault.TheVariants as fault
use Rattle.store_values.specs.declared.ids.ClassId.{ClassId}
use Rattle.store_values.specs.declared.ids.ObjectId.{ObjectId}
use Rattle.ruby_store.specs.declared.object_parts.Object.{Object}
use Rattle.ruby_store.specs.declared.store.Store.{Store}
use Rattle.ruby_store.specs.Model.{Reading, text_of, objects_of}

-- The new object stands last and has the next number. It takes so many cells, which fit. All else is as before.
pub record IsMade (cells : ℕ) (made : Reading → meant.Object) (before after : Store) (number : ℕ) : Type 0 where
  pub fits : before.cells + cells ≤ cell_limit
  pub rest : after ≡ record before { objects = after.objects; cells = before.cells + cells }
  pub number_is : (read : Reading) → number ≡ next_number (objects_of read before)
  pub objects : (read : Reading) → objects_of read after ≡ objects_of read before ++ made read ∷ []

-- The object is made, or its cells would pass the limit and the store is as before.
abbrev pub Makes : ℕ → (Reading → meant.Object) → Store → Result ObjectId StoreFault → Store → Type 0
Makes cells made before (Ok id) after = IsMade cells made before after id.number
Makes cells made before (Err (fault.Full f)) after = (cell_limit < before.cells + cells) × (after ≡ before)
Makes cells made before (Err fault.NoMemory) after = Unit {0}

-- The object stands last, and the cells are these.
pub record IsAdded (cells : ℕ) (o : Object) (before after : Store) (id : ObjectId) : Type 0 where
  pub rest : after ≡ record before { objects = after.objects; cells = cells }
  pub number_is : id.number ≡ length before.objects.items
  pub objects : after.objects.items ≡ before.objects.items ++ o ∷ []

-- a new class or module of this name, without modules, rows and constants
abbrev pub new_class : ℕ → Bool → Option ClassId → Reading → meant.Object
new_class name is_module above read = new_object (meant.class_or_module (record {
  name = text_of read name;
  is_module = is_module;
  superclass = option_map (λ d. d.number) above;
  modules = [];
  methods = [];
  class_methods = [];
  constants = [];
}))

-- The new class stands last, among the objects and among the classes, and has the next number. All else is as before.
pub record IsClassMade (cells : ℕ) (made : Reading → meant.Object) (before after : Store) (class : ClassId) : Type 0 where
  pub rest : after ≡ record before { objects = after.objects; classes = after.classes; cells = cells }
  pub number_is : (read : Reading) → class.number ≡ next_number (objects_of read before)
  pub objects : (read : Reading) → objects_of read after ≡ objects_of read before ++ made read ∷ []
  pub classes : after.classes.items ≡ before.classes.items ++ class ∷ []

-- The class is made, or its cells would pass the limit and the store is as before.
abbrev pub MakesClass : (Reading → meant.Object) → Store → Result ClassId StoreFault → Store → Type 0
MakesClass made before (Ok class) after = (before.cells + class_cells ≤ cell_limit) × IsClassMade (before.cells + class_cells) made before after class
MakesClass made before (Err (fault.Full f)) after = (cell_limit < before.cells + class_cells) × (after ≡ before)
MakesClass made before (Err fault.NoMemory) after = Unit {0}

-- The object with this number has another kind, so many cells are taken, and all else is as before.
pub record IsChanged (number cells : ℕ) (change : Reading → meant.Kind → meant.Kind) (before after : Store) : Type 0 where
  pub rest : after ≡ record before { objects = after.objects; cells = before.cells + cells }
  pub objects : (read : Reading) → objects_of read after ≡ with_kind (objects_of read before) number (change read (kind_at (objects_of read before) number))

-- The object is changed, or the cells would pass the limit and the store is as before.
abbrev pub Changes : ℕ → ℕ → (Reading → meant.Kind → meant.Kind) → Store → Result (Unit {0}) StoreFault → Store → Type 0
Changes number cells change before (Ok u) after = (before.cells + cells ≤ cell_limit) × IsChanged number cells change before after
Changes number cells change before (Err (fault.Full f)) after = (cell_limit < before.cells + cells) × (after ≡ before)
Changes number cells change before (Err fault.NoMemory) after = Unit {0}
