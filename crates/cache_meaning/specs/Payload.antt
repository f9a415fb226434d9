-- What a cache file holds of a source behind its key.
use Rattle.std.specs.Prelude.{ℕ, Option, None, List, ◌++◌}
use Rattle.std.specs.List.{flat_map}
use Rattle.std.specs.Option.{option_map}
use Rattle.bs_outside.specs.declared.names.CacheKind.{CacheKind}
use Rattle.bs_outside.specs.declared.names.CacheKind.TheVariants.{Iseq, Yaml, Json, LoadPath}
use Rattle.iseq_types.specs.declared.sequences.Unit.{Unit as CompiledUnit}
use Rattle.iseq_dump.specs.Dump.{head_of, head_bytes, body_bytes}
use Rattle.cache_meaning.specs.SmallUnit.{unit_of}

-- the header, the index and the bodies of a unit
unfoldable pub dump_of : CompiledUnit → List ℕ
dump_of u = head_bytes (head_of u) ++ flat_map body_bytes u.bodies

-- The payload of a source of this kind, at this path and with these contents: the dump of its unit. A text that is no Ruby, or none that is
-- compiled by now, has no payload, and neither has a data file by now.
abbrev pub payload_of : CacheKind → List ℕ → List ℕ → Option (List ℕ)
payload_of Iseq path contents = option_map dump_of (unit_of path contents)
payload_of Yaml path contents = None
payload_of Json path contents = None
payload_of LoadPath path contents = None
