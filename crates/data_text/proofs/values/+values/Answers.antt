use Rattle.std.proofs.Common.{rules, ◌≡◌, ◌∙◌, ◌∷◌, ◌-◌, List, suc, true, false, Err, sym, ap, subst, arith, MatchResult}
use Rattle.msgpack_codec.specs.declared.value.Value.{Value}
use Rattle.msgpack_codec.specs.declared.value.Value.TheVariants as value
use Rattle.data_text.specs.Json.{ValueAt, ElementAt, RunAt, BeginsNoDigit}
use Rattle.data_text.specs.Reading.{Found, FoundValue, Stopped, StoppedBy, Marked, ListAt, MapAt, EntriesAt}
use Rattle.data_text.proofs.Chains.{stopped_result, no_byte}
use Rattle.data_text.proofs.Spaces.{no_bytes}
use Rattle.data_text.proofs.Runs.{Behind, one_more, last_part, stop_run}
use Rattle.data_text.proofs.Nests.{no_members, no_entries, member_more, member_last, members_stop, member_stop1, member_stop2, member_found, list_closing, element_found, element_stop1, element_stop2, empty_list, short_list, list_found, list_stop, empty_map, short_map, map_found, map_stop, list_value, map_value, scalar_value, value_begins, value_some, with_mark, element_shorter, key_shorter}
use Rattle.data_text.proofs.values.+values.Goals as goal

pub element-returns-in_err-value : goal.element-returns-in_err-value
element-returns-in_err-value t c =
    let e = c.in_err-value.field-0.0 in
    let is : c.from_residual.result ≡ Err e = search rules in
    stopped_result (λ found. Found (Marked (ElementAt (ValueAt c.args.levels) c.args.close)) found.0 c.args.bytes.now found.1.now) (λ e. Stopped (Marked (ElementAt (ValueAt c.args.levels) c.args.close)) c.args.bytes.now e) c.from_residual.result e is
    (element_stop1 c.args.levels c.args.close c.requires c.args.bytes.now c.skip_blanks.result.now e c.skip_blanks.ensures c.in_err-value.ensures)

pub element-returns-in_err-last : goal.element-returns-in_err-last
element-returns-in_err-last t c =
    let e = c.in_err-last.field-0.0 in
    let is : c.from_residual-in_err-last.result ≡ Err e = search rules in
    stopped_result (λ found. Found (Marked (ElementAt (ValueAt c.args.levels) c.args.close)) found.0 c.args.bytes.now found.1.now) (λ e. Stopped (Marked (ElementAt (ValueAt c.args.levels) c.args.close)) c.args.bytes.now e) c.from_residual-in_err-last.result e is
    (element_stop2 c.args.levels c.args.close c.requires c.in_ok-value.value c.args.bytes.now c.skip_blanks.result.now c.in_ok-value.rest.now e c.skip_blanks.ensures c.in_ok-value.ensures c.in_err-last.ensures)

pub element-returns : goal.element-returns
element-returns t c =
    element_found c.args.levels c.args.close c.requires c.in_ok-value.value c.in_ok-last.last c.args.bytes.now c.skip_blanks.result.now c.in_ok-value.rest.now c.in_ok-last.rest.now c.skip_blanks.ensures c.in_ok-value.ensures c.in_ok-last.ensures

pub items-returns-in_err-item : goal.items-returns-in_err-item
items-returns-in_err-item t c =
    let e = c.in_err-item.field-0.0 in
    let is : c.from_residual.result ≡ Err e = search rules in
    stopped_result (λ found. Found (RunAt (ElementAt (ValueAt c.args.levels) 93)) found.0.items c.args.bytes.now found.1.now) (λ e. Stopped (RunAt (ElementAt (ValueAt c.args.levels) 93)) c.args.bytes.now e) c.from_residual.result e is
    (stop_run (ElementAt (ValueAt c.args.levels) 93) (list_closing c.args.levels) c.loop-items.items.items c.args.bytes.now c.loop-items.rest.now c.loop-items.invariant e c.in_err-item.ensures)

pub items-returns-then-last : goal.items-returns-then-last
items-returns-then-last t c =
    subst (λ (v : List Value). Found (RunAt (ElementAt (ValueAt c.args.levels) 93)) v c.args.bytes.now c.in_ok-item.after.now) (sym c.in_ok-push.ensures.items)
    (last_part (ElementAt (ValueAt c.args.levels) 93) c.loop-items.items.items c.in_ok-item.item c.args.bytes.now c.loop-items.rest.now c.in_ok-item.after.now c.loop-items.invariant
    (with_mark (ElementAt (ValueAt c.args.levels) 93) c.in_ok-item.item c.in_ok-item.last true c.if-last.true c.loop-items.rest.now c.in_ok-item.after.now c.in_ok-item.ensures))

pub items-loop-items-smaller : goal.items-loop-items-smaller
items-loop-items-smaller t c = element_shorter c.args.levels 93 (c.in_ok-item.item, c.in_ok-item.last) c.loop-items.rest.now c.in_ok-item.after.now c.in_ok-item.ensures

pub items-loop-items-preserved : goal.items-loop-items-preserved
items-loop-items-preserved t c =
    subst (λ (v : List Value). Behind (ElementAt (ValueAt c.args.levels) 93) v c.args.bytes.now c.in_ok-item.after.now) (sym c.in_ok-push.ensures.items)
    (one_more (ElementAt (ValueAt c.args.levels) 93) c.loop-items.items.items c.in_ok-item.item c.args.bytes.now c.loop-items.rest.now c.in_ok-item.after.now c.loop-items.invariant
    (with_mark (ElementAt (ValueAt c.args.levels) 93) c.in_ok-item.item c.in_ok-item.last false c.if-last.false c.loop-items.rest.now c.in_ok-item.after.now c.in_ok-item.ensures))

pub list-returns-in_default : goal.list-returns-in_default
list-returns-in_default t c = short_list c.args.levels c.args.bytes.now c.skip_blanks-rest.result.now c.skip_blanks-rest.ensures (no_bytes c.skip_blanks-rest.result.now c.in_default.ensures.cases)

pub list-returns-then-first-eq93 : goal.list-returns-then-first-eq93
list-returns-then-first-eq93 t c =
    subst (λ (v : List Value). Found (ListAt c.args.levels) (value.List v) c.args.bytes.now c.in-Some.after.now) (sym c.new.ensures)
    (empty_list c.args.levels c.args.bytes.now c.skip_blanks-rest.result.now c.in-Some.after.now c.skip_blanks-rest.ensures (c.in-Some.ensures.cases.0 ∙ ap (λ b. b ∷ c.in-Some.after.now) c.if-first-eq93.true))

pub list-returns-in_err-items : goal.list-returns-in_err-items
list-returns-in_err-items t c =
    let e = c.in_err-items.field-0.0 in
    let is : c.from_residual.result ≡ Err e = search rules in
    stopped_result (λ found. Found (ListAt c.args.levels) found.0 c.args.bytes.now found.1.now) (λ e. Stopped (ListAt c.args.levels) c.args.bytes.now e) c.from_residual.result e is
    (list_stop c.args.levels c.args.bytes.now c.skip_blanks-rest.result.now c.in-Some.after.now c.in-Some.first.now e c.skip_blanks-rest.ensures c.in-Some.ensures.cases.0 c.if-first-eq93.false c.in_err-items.ensures)

pub list-returns : goal.list-returns
list-returns t c =
    subst (λ (v : List Value). Found (ListAt c.args.levels) (value.List v) c.args.bytes.now c.in_ok-items.after.now) (sym c.from_vec.ensures)
    (list_found c.args.levels c.in_ok-items.items.items c.args.bytes.now c.skip_blanks-rest.result.now c.in-Some.after.now c.in_ok-items.after.now c.in-Some.first.now c.skip_blanks-rest.ensures c.in-Some.ensures.cases.0 c.if-first-eq93.false c.in_ok-items.ensures)

pub map-returns-in_default : goal.map-returns-in_default
map-returns-in_default t c = short_map c.args.levels c.args.bytes.now c.skip_blanks-rest.result.now c.skip_blanks-rest.ensures (no_bytes c.skip_blanks-rest.result.now c.in_default.ensures.cases)

pub map-returns-then-first-eq125 : goal.map-returns-then-first-eq125
map-returns-then-first-eq125 t c =
    subst (λ (v : List (Value × Value)). Found (MapAt c.args.levels) (value.Map v) c.args.bytes.now c.in-Some.after.now) (sym c.new.ensures)
    (empty_map c.args.levels c.args.bytes.now c.skip_blanks-rest.result.now c.in-Some.after.now c.skip_blanks-rest.ensures (c.in-Some.ensures.cases.0 ∙ ap (λ b. b ∷ c.in-Some.after.now) c.if-first-eq125.true))

pub map-returns-in_err-members : goal.map-returns-in_err-members
map-returns-in_err-members t c =
    let e = c.in_err-members.field-0.0 in
    let is : c.from_residual.result ≡ Err e = search rules in
    stopped_result (λ found. Found (MapAt c.args.levels) found.0 c.args.bytes.now found.1.now) (λ e. Stopped (MapAt c.args.levels) c.args.bytes.now e) c.from_residual.result e is
    (map_stop c.args.levels c.args.bytes.now c.skip_blanks-rest.result.now c.in-Some.after.now c.in-Some.first.now e c.skip_blanks-rest.ensures c.in-Some.ensures.cases.0 c.if-first-eq125.false c.in_err-members.ensures)

pub map-returns : goal.map-returns
map-returns t c =
    subst (λ (v : List (Value × Value)). Found (MapAt c.args.levels) (value.Map v) c.args.bytes.now c.in_ok-members.after.now) (sym c.in_ok-pairs.ensures)
    (map_found c.args.levels c.in_ok-members.members.entries c.args.bytes.now c.skip_blanks-rest.result.now c.in-Some.after.now c.in_ok-members.after.now c.in-Some.first.now c.skip_blanks-rest.ensures c.in-Some.ensures.cases.0 c.if-first-eq125.false c.in_ok-members.ensures)

pub members-loop-members-init : goal.members-loop-members-init
members-loop-members-init t c = no_members c.args.levels c.new-members.result.entries c.args.bytes.now (no_entries c.new-members.result.entries c.new-members.ensures.len)

pub members-returns-in_err-name : goal.members-returns-in_err-name
members-returns-in_err-name t c =
    let e = c.in_err-name.field-0.0 in
    let is : c.from_residual.result ≡ Err e = search rules in
    stopped_result (λ found. Found (EntriesAt c.args.levels) found.0.entries c.args.bytes.now found.1.now) (λ e. Stopped (EntriesAt c.args.levels) c.args.bytes.now e) c.from_residual.result e is
    (members_stop c.args.levels c.loop-members.members.entries c.args.bytes.now c.loop-members.rest.now e c.loop-members.invariant (member_stop1 c.args.levels c.loop-members.rest.now e c.in_err-name.ensures))

pub members-returns-in_err-value : goal.members-returns-in_err-value
members-returns-in_err-value t c =
    let e = c.in_err-value.field-0.0 in
    let is : c.from_residual-in_err-value.result ≡ Err e = search rules in
    stopped_result (λ found. Found (EntriesAt c.args.levels) found.0.entries c.args.bytes.now found.1.now) (λ e. Stopped (EntriesAt c.args.levels) c.args.bytes.now e) c.from_residual-in_err-value.result e is
    (members_stop c.args.levels c.loop-members.members.entries c.args.bytes.now c.loop-members.rest.now e c.loop-members.invariant (member_stop2 c.args.levels c.in_ok-name.name c.loop-members.rest.now c.in_ok-name.behind.now e c.in_ok-name.ensures c.in_err-value.ensures))

pub members-returns-then-last : goal.members-returns-then-last
members-returns-then-last t c =
    member_last c.args.levels c.loop-members.members.entries c.insert.new.self.entries c.in_ok-name.name c.in_ok-value.value c.args.bytes.now c.loop-members.rest.now c.in_ok-value.after.now c.loop-members.invariant
    (member_found c.args.levels c.in_ok-name.name c.in_ok-value.value true c.loop-members.rest.now c.in_ok-name.behind.now c.in_ok-value.after.now c.in_ok-name.ensures
    (with_mark (ElementAt (ValueAt c.args.levels) 125) c.in_ok-value.value c.in_ok-value.last true c.if-last.true c.in_ok-name.behind.now c.in_ok-value.after.now c.in_ok-value.ensures)) c.in_ok-insert.ensures.entries

pub members-loop-members-smaller : goal.members-loop-members-smaller
members-loop-members-smaller t c =
    let one = key_shorter c.in_ok-name.name c.loop-members.rest.now c.in_ok-name.behind.now c.in_ok-name.ensures in
    let two = element_shorter c.args.levels 125 (c.in_ok-value.value, c.in_ok-value.last) c.in_ok-name.behind.now c.in_ok-value.after.now c.in_ok-value.ensures in
    omega (arith, one, two)

pub members-loop-members-preserved : goal.members-loop-members-preserved
members-loop-members-preserved t c =
    member_more c.args.levels c.loop-members.members.entries c.insert.new.self.entries c.in_ok-name.name c.in_ok-value.value c.args.bytes.now c.loop-members.rest.now c.in_ok-value.after.now c.loop-members.invariant
    (member_found c.args.levels c.in_ok-name.name c.in_ok-value.value false c.loop-members.rest.now c.in_ok-name.behind.now c.in_ok-value.after.now c.in_ok-name.ensures
    (with_mark (ElementAt (ValueAt c.args.levels) 125) c.in_ok-value.value c.in_ok-value.last false c.if-last.false c.in_ok-name.behind.now c.in_ok-value.after.now c.in_ok-value.ensures)) c.in_ok-insert.ensures.entries

pub value-returns-in_default : goal.value-returns-in_default
value-returns-in_default t c = no_byte BeginsNoDigit (ValueAt c.args.levels) c.args.bytes.now (no_bytes c.args.bytes.now c.in_default.ensures.cases) (value_begins c.args.levels) (value_some c.args.levels)

pub value-returns : goal.value-returns
value-returns t c =
    let e : suc (c.args.levels - 1) ≡ c.args.levels = omega arith in
    subst (λ n. MatchResult c.scalar-2.result (λ found. FoundValue (ValueAt n) found.0 c.args.bytes.now found.1.now) (λ e. StoppedBy BeginsNoDigit (ValueAt n) c.args.bytes.now e)) e
    (scalar_value (c.args.levels - 1) c.in-Some.first.now c.args.bytes.now c.in-Some.rest.now c.scalar-2.result c.in-Some.ensures.cases.0 c.if-first-eq91.false c.if-first-eq123.false c.scalar-2.ensures)

pub value-returns-then-first-eq91 : goal.value-returns-then-first-eq91
value-returns-then-first-eq91 t c =
    let e : suc (c.args.levels - 1) ≡ c.args.levels = omega arith in
    subst (λ n. MatchResult c.list.result (λ found. FoundValue (ValueAt n) found.0 c.args.bytes.now found.1.now) (λ e. StoppedBy BeginsNoDigit (ValueAt n) c.args.bytes.now e)) e
    (list_value (c.args.levels - 1) c.args.bytes.now c.in-Some.rest.now c.list.result (c.in-Some.ensures.cases.0 ∙ ap (λ b. b ∷ c.in-Some.rest.now) c.if-first-eq91.true) c.list.ensures)

pub value-returns-then-first-eq123 : goal.value-returns-then-first-eq123
value-returns-then-first-eq123 t c =
    let e : suc (c.args.levels - 1) ≡ c.args.levels = omega arith in
    subst (λ n. MatchResult c.map.result (λ found. FoundValue (ValueAt n) found.0 c.args.bytes.now found.1.now) (λ e. StoppedBy BeginsNoDigit (ValueAt n) c.args.bytes.now e)) e
    (map_value (c.args.levels - 1) c.args.bytes.now c.in-Some.rest.now c.map.result (c.in-Some.ensures.cases.0 ∙ ap (λ b. b ∷ c.in-Some.rest.now) c.if-first-eq123.true) c.map.ensures)
