-- The sorts of objects.
use Rattle.std.specs.Prelude.{ℤ, pos, Bool, true, false, List, [], Option, Some, None}
use Rattle.ruby_tree.specs.Names.{Bytes}
use Rattle.ruby_meaning.specs.Value as meant
use Rattle.ruby_meaning.specs.Numbers.{object_class}
use Rattle.store_values.specs.declared.ids.ClassId.{ClassId}
use Rattle.ruby_store.specs.declared.object_parts.ObjectKind.{ObjectKind}
use Rattle.ruby_store.specs.declared.object_parts.ObjectKind.TheVariants as sort

-- the sort of a kind of the definition
abbrev pub told_kind : meant.Kind → ObjectKind
told_kind (meant.string f) = sort.String
told_kind (meant.elements vs) = sort.Array
told_kind (meant.table ps d) = sort.Hash
told_kind (meant.span a b e) = sort.Range
told_kind (meant.closed k) = sort.Proc
told_kind (meant.plain c) = sort.Plain
told_kind (meant.class_or_module c) = sort.Class

abbrev pub is_elements : meant.Kind → Bool
is_elements (meant.string f) = false
is_elements (meant.elements vs) = true
is_elements (meant.table ps d) = false
is_elements (meant.span a b e) = false
is_elements (meant.closed k) = false
is_elements (meant.plain c) = false
is_elements (meant.class_or_module c) = false

-- the class, or Object where there is none
abbrev pub class_or_object : Option ClassId → ClassId
class_or_object None = record { number = object_class }
class_or_object (Some c) = c

-- the bytes of a String, none of another object
abbrev pub bytes_in : meant.Kind → Bytes
bytes_in (meant.string f) = f
bytes_in (meant.elements vs) = []
bytes_in (meant.table ps d) = []
bytes_in (meant.span a b e) = []
bytes_in (meant.closed k) = []
bytes_in (meant.plain c) = []
bytes_in (meant.class_or_module c) = []

-- the elements of an Array, none of another object
abbrev pub elements_in : meant.Kind → List meant.Value
elements_in (meant.string f) = []
elements_in (meant.elements vs) = vs
elements_in (meant.table ps d) = []
elements_in (meant.span a b e) = []
elements_in (meant.closed k) = []
elements_in (meant.plain c) = []
elements_in (meant.class_or_module c) = []

-- an Array has other elements, and another object stays
abbrev pub elements_by : (List meant.Value → List meant.Value) → meant.Kind → meant.Kind
elements_by f (meant.string b) = meant.string b
elements_by f (meant.elements vs) = meant.elements (f vs)
elements_by f (meant.table ps d) = meant.table ps d
elements_by f (meant.span a b e) = meant.span a b e
elements_by f (meant.closed k) = meant.closed k
elements_by f (meant.plain c) = meant.plain c
elements_by f (meant.class_or_module c) = meant.class_or_module c

-- the first and the last of a Range, and whether the last is left out
abbrev pub ends_in : meant.Kind → ℤ × ℤ × Bool
ends_in (meant.string f) = (pos 0, pos 0, false)
ends_in (meant.elements vs) = (pos 0, pos 0, false)
ends_in (meant.table ps d) = (pos 0, pos 0, false)
ends_in (meant.span a b e) = (a, b, e)
ends_in (meant.closed k) = (pos 0, pos 0, false)
ends_in (meant.plain c) = (pos 0, pos 0, false)
ends_in (meant.class_or_module c) = (pos 0, pos 0, false)
