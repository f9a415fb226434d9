-- The order of the rows of a catch table.
use Rattle.std.specs.Prelude.{ℕ, Bool, true, false, cond, ◌&&◌, nat_lt, nat_eq, List, [], ◌∷◌}
use Rattle.iseq_types.specs.declared.sequences.CatchKind.{CatchKind}
use Rattle.iseq_types.specs.declared.sequences.CatchKind.TheVariants as kinds
use Rattle.iseq_types.specs.declared.sequences.CatchRow.{CatchRow}

-- rescue and ensure rows by the numbers of their sequences, then break, and next last
abbrev pub stands_by_kind : CatchKind → ℕ → CatchKind → ℕ → Bool
stands_by_kind kinds.Rescue q kinds.Rescue r = nat_lt q r
stands_by_kind kinds.Rescue q kinds.Ensure r = nat_lt q r
stands_by_kind kinds.Rescue q kinds.Break r = true
stands_by_kind kinds.Rescue q kinds.Next r = true
stands_by_kind kinds.Ensure q kinds.Rescue r = nat_lt q r
stands_by_kind kinds.Ensure q kinds.Ensure r = nat_lt q r
stands_by_kind kinds.Ensure q kinds.Break r = true
stands_by_kind kinds.Ensure q kinds.Next r = true
stands_by_kind kinds.Break q kinds.Next r = true
stands_by_kind kinds.Break q _ r = false
stands_by_kind kinds.Next q _ r = false

-- One row stands before another one: `to` ascending, `from` descending, sequence number, break before next and both last.
abbrev pub stands_before : CatchRow → CatchRow → Bool
stands_before a b =
    cond (nat_eq a.to b.to) (cond (nat_eq a.from b.from) (stands_by_kind a.kind a.seq b.kind b.seq) (nat_lt b.from a.from)) (nat_lt a.to b.to)

-- each row stands before the next one
abbrev pub are_in_order : List CatchRow → Bool
are_in_order [] = true
are_in_order (a ∷ []) = true
are_in_order (a ∷ b ∷ rows) = stands_before a b && are_in_order (b ∷ rows)
