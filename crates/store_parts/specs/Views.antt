-- What the parts hold.
use Rattle.std.specs.Prelude.{◌≡◌, false, Option, Some, map, nat_eq}
use Rattle.indexmap.specs.IndexMap.{get}
use Rattle.ruby_tree.specs.Names.{Texts}
use Rattle.ruby_tree.specs.declared.names.Name.{Name}
use Rattle.store_values.specs.declared.values.Value.{Value}
use Rattle.store_values.specs.declared.rows.MethodRow.{MethodRow}
use Rattle.store_parts.specs.declared.name_map.NameMap.{NameMap}
use Rattle.store_parts.specs.declared.name_table.NameTable.{NameTable}
use Rattle.store_parts.specs.declared.row_table.RowTable.{RowTable}

-- the value of a name
abbrev pub value_named : NameMap → Name → Option Value
value_named m name = get nat_eq m.values name.number

-- the latest row of a name
abbrev pub row_named : RowTable → Name → Option MethodRow
row_named t name = get nat_eq t.rows name.number

-- the texts in the order of their numbers
abbrev pub texts_of : NameTable → Texts
texts_of t = map (λ text. text.items) t.texts.keys

-- after a change the name has this, and every other name what it had
abbrev pub Sets : {A : Type 0} → (Name → Option A) → (Name → Option A) → Name → A → Type 0
Sets before after name x = (after name ≡ Some x) × ((other : Name) → nat_eq name.number other.number ≡ false → after other ≡ before other)

-- every name has what it had
abbrev pub Keeps : {A : Type 0} → (Name → Option A) → (Name → Option A) → Type 0
Keeps before after = (name : Name) → after name ≡ before name
