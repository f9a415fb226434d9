-- The part of the definition's world that a store holds: its objects. A reading turns the numbers of names, rows and Procs into what they stand
-- for.
use Rattle.std.specs.Prelude.{ℕ, List, [], map, reverse as reversed, Option, Some, None}
use Rattle.std.specs.Option.{option_map}
use Rattle.ruby_tree.specs.Names.{Bytes}
use Rattle.ruby_meaning.specs.Value as meant
use Rattle.ruby_meaning.specs.Value.{MethodBody, MethodRow}
use Rattle.ruby_meaning.specs.Store.{truth_value}
use Rattle.store_values.specs.declared.values.Value.{Value}
use Rattle.store_values.specs.declared.values.Value.TheVariants as value
use Rattle.store_values.specs.declared.rows.MethodRow as own
use Rattle.store_values.specs.declared.rows.ProcRow.{ProcRow}
use Rattle.store_parts.specs.declared.hash_table.HashTable.{HashTable}
use Rattle.store_parts.specs.declared.name_map.NameMap.{NameMap}
use Rattle.ruby_store.specs.declared.object_parts.Content.{Content}
use Rattle.ruby_store.specs.declared.object_parts.Content.TheVariants as content
use Rattle.ruby_store.specs.declared.object_parts.Extras.{Extras}
use Rattle.ruby_store.specs.declared.object_parts.Object.{Object}
use Rattle.ruby_store.specs.declared.object_parts.Thrown.{Thrown}
use Rattle.ruby_store.specs.declared.object_parts.Class.{Class}
use Rattle.ruby_store.specs.declared.store.Store.{Store}

-- What the numbers of names stand for, what a row of a method runs, and the number of a Proc's closure.
pub record Reading : Type 0 where
  pub text : ℕ → Bytes
  pub body_of : own.MethodRow → MethodBody
  pub closure_of : ProcRow → ℕ

abbrev pub text_of : Reading → ℕ → Bytes
text_of read n = read.text n

-- A value: classes and other objects count in one row.
abbrev pub value_of : Reading → Value → meant.Value
value_of read value.Nil = meant.nil
value_of read (value.Bool b) = truth_value b
value_of read (value.Int i) = meant.number i
value_of read (value.Sym name) = meant.symbol_named (text_of read name.number)
value_of read (value.Class c) = meant.object c.number
value_of read (value.Object o) = meant.object o.number

abbrev pub values_of : Reading → List Value → List meant.Value
values_of read vs = map (value_of read) vs

abbrev pub bound_of : Reading → ℕ × Value → Bytes × meant.Value
bound_of read b = (text_of read b.0, value_of read b.1)

abbrev pub names_of : Reading → NameMap → List (Bytes × meant.Value)
names_of read m = map (bound_of read) m.values.entries

abbrev pub pair_of : Reading → Value × Value → meant.Value × meant.Value
pair_of read p = (value_of read p.0, value_of read p.1)

abbrev pub pairs_of : Reading → HashTable → List (meant.Value × meant.Value)
pairs_of read t = map (λ e. pair_of read e.1) t.pairs.entries

abbrev pub row_of : Reading → ℕ × own.MethodRow → MethodRow
row_of read r = record { name = text_of read r.0; body = read.body_of r.1 }

abbrev pub class_of_record : Reading → Class → meant.Class
class_of_record read c = record {
  name = text_of read c.name.number;
  is_module = c.is_module;
  superclass = option_map (λ d. d.number) c.above;
  modules = map (λ d. d.number) (reversed c.modules.items);
  methods = map (row_of read) c.methods.rows.entries;
  class_methods = map (row_of read) c.class_methods.rows.entries;
  constants = names_of read c.constants;
}

abbrev pub kind_of : Reading → Content → meant.Kind
kind_of read (content.String f) = meant.string f
kind_of read (content.Array vs) = meant.elements (values_of read vs)
kind_of read (content.Hash t) = meant.table (pairs_of read t.value) (value_of read t.value.default)
kind_of read (content.Range r) = meant.span r.first r.last r.exclusive
kind_of read (content.Proc p) = meant.closed (read.closure_of p.value)
kind_of read (content.Plain c) = meant.plain c.number
kind_of read (content.Class c) = meant.class_or_module (class_of_record read c.value)

abbrev pub place_of : Reading → Thrown → Bytes × ℕ
place_of read t = (text_of read t.path.number, t.line)

abbrev pub variables_of : Reading → Option Extras → List (Bytes × meant.Value)
variables_of read None = []
variables_of read (Some x) = names_of read x.variables

abbrev pub thrown_of : Reading → Option Extras → Option (Bytes × ℕ)
thrown_of read None = None
thrown_of read (Some x) = option_map (place_of read) x.thrown

-- the definition's object
abbrev pub object_of : Reading → Object → meant.Object
object_of read o = record {
  kind = kind_of read o.content;
  variables = variables_of read (option_map (λ x. x.value) o.extras);
  frozen = o.frozen;
  thrown_at = thrown_of read (option_map (λ x. x.value) o.extras);
}

-- the objects of the definition
abbrev pub objects_of : Reading → Store → meant.Objects
objects_of read s = map (object_of read) s.objects.items
