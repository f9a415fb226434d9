-- The steps of the search for depths: where a body begins, its entries, its rows, and where an instruction leads.
use Rattle.std.proofs.Common.{◌≡◌, ℕ, ◌+◌, ◌-◌, ◌^◌, ◌<◌, ◌≤◌, List, [], ◌∷◌, length, get_or, take, Option, Some, None, sym, ap, ◌∙◌, subst, arith, ⊎_elim, inl, inr}
use Rattle.std.specs.Prelude.{slice_get, Contains, IsTrue, IfSome}
use Rattle.std.proofs.lemmas.List.Elements.{All-more, All-weaker, All-nil, All-contains, Contains-get_or}
use Rattle.std.proofs.lemmas.Option.{same_Some}
use Rattle.iseq_types.specs.declared.sequences.Sequence.{Sequence}
use Rattle.iseq_types.specs.declared.sequences.SeqKind.{SeqKind}
use Rattle.iseq_types.specs.declared.sequences.SeqKind as seqs
use Rattle.iseq_types.specs.declared.sequences.CatchKind as kinds
use Rattle.iseq_types.specs.declared.sequences.CatchRow.{CatchRow}
use Rattle.iseq_types.specs.declared.sequences.Line.{Line}
use Rattle.iseq_types.specs.declared.depths.Depths.{Depths}
use Rattle.iseq_types.specs.Instructions.{needs_of, takes_of, leaves_of, depth_after, goes_on, target_of}
use Rattle.iseq_types.specs.Ways.{Way, begins, enters, catches_on, retries, follows, jumps, start_depth}
use Rattle.iseq_types.specs.Sound.{FindsEnough, HasOneDepth, IsInside}
use Rattle.iseq_types.specs.Depths.{DepthAt, Reaches, Clashes, Leads, LeadsOn, SoFar, Grows, HasRow, HasFollowing, FindsStart, FindsEntries, FindsRow, FindsRows, FindsFollowing, FindsNext}
use Rattle.iseq_types.proofs.Elements.{All-at}
use Rattle.iseq_types.proofs.Reaching.{IsReached, reached, clash, seed_room, Grows-none, Grows-more, one_depth_at}

-- where a body begins
begin_way : (seq : Sequence) (kind : SeqKind) (depth : ℕ) → depth ≡ start_depth kind → Way seq kind 0 depth
begin_way seq kind depth e = subst (λ n. Way seq kind 0 n) (sym e) begins

start_small : (kind : SeqKind) → start_depth kind ≤ 2 ^ 64
start_small kind = let h = low kind in omega (arith, h)
  where
    low : (k : SeqKind) → start_depth k ≤ 1
    low seqs.TheVariants.Rescue = omega arith
    low _ = omega arith

pub finds_start : (seq : Sequence) (old new : Depths) (depth : ℕ) → 0 < length seq.code → SoFar seq [] old → depth ≡ start_depth old.kind → Reaches old new 0 depth → FindsStart seq old new
finds_start seq old new depth some s e r =
    let m = start_small old.kind in
    let h = reached seq [] old new 0 depth s some (begin_way seq old.kind depth e) (seed_room seq [] old depth s (omega (arith, e, m))) r in
    record { so_far = h.so_far; grows = h.grows; there = subst (λ n. DepthAt new.found 0 n) e h.there }

pub start_clash : (seq : Sequence) (old : Depths) (depth : ℕ) → 0 < length seq.code → SoFar seq [] old → depth ≡ start_depth old.kind → Clashes old.found 0 depth → ¬ HasOneDepth seq old.kind
start_clash seq old depth some s e c = clash seq [] old 0 depth s some (begin_way seq old.kind depth e) c

-- the entries
pub finds_no_entries : (seq : Sequence) (entries : List ℕ) (old : Depths) → SoFar seq [] old → FindsEntries seq (take 0 entries) old old
finds_no_entries seq entries old s = record { so_far = s; grows = Grows-none old; there = All-nil (λ entry. DepthAt old.found entry 0) }

entry_way : (seq : Sequence) (kind : SeqKind) (i d : ℕ) → i < length seq.entries → Way seq kind (get_or seq.entries i d) 0
entry_way seq kind i d l = enters (get_or seq.entries i d) (Contains-get_or seq.entries i d l)

abbrev EntryAt : Depths → ℕ → Type 0
EntryAt depths entry = DepthAt depths.found entry 0

pub finds_entry : (seq : Sequence) (old mid new : Depths) (i d : ℕ) → IsInside seq → i < length seq.entries → FindsEntries seq (take i seq.entries) old mid → Reaches mid new (get_or seq.entries i d) 0 → FindsEntries seq (take (i + 1) seq.entries) old new
finds_entry seq old mid new i d inside l f r =
    let h = reached seq [] mid new (get_or seq.entries i d) 0 f.so_far (inside.entries i d l) (entry_way seq mid.kind i d l) (seed_room seq [] mid 0 f.so_far (omega arith)) r in
    record {
      so_far = h.so_far;
      grows = Grows-more old mid new f.grows h.grows;
      there = All-more (EntryAt new) seq.entries i d l (All-weaker (EntryAt mid) (EntryAt new) (λ entry at. h.grows.kept entry 0 at) (take i seq.entries) f.there) h.there;
    }

pub entry_clash : (seq : Sequence) (old mid : Depths) (i d : ℕ) → IsInside seq → i < length seq.entries → FindsEntries seq (take i seq.entries) old mid → Clashes mid.found (get_or seq.entries i d) 0 → ¬ HasOneDepth seq old.kind
entry_clash seq old mid i d inside l f c =
    subst (λ k. ¬ HasOneDepth seq k) f.grows.same (clash seq [] mid (get_or seq.entries i d) 0 f.so_far (inside.entries i d l) (entry_way seq mid.kind i d l) c)

-- a row
pub row_inside : (seq : Sequence) (row : CatchRow) → IsInside seq → Contains seq.rows row → (row.from < length seq.code) × (row.to ≤ length seq.code) × (row.cont < length seq.code)
row_inside seq row inside within = All-contains (λ (r : CatchRow). (r.from < length seq.code) × (r.to ≤ length seq.code) × (r.cont < length seq.code)) seq.rows row inside.rows within

pub row_cont : (seq : Sequence) (row : CatchRow) (old mid : Depths) → IsInside seq → Contains seq.rows row → row.sp < 2 ^ 64 → SoFar seq [] old → Reaches old mid row.cont (row.sp + 1) → IsReached seq [] old mid row.cont (row.sp + 1)
row_cont seq row old mid inside within small s r =
    reached seq [] old mid row.cont (row.sp + 1) s (row_inside seq row inside within).2 (catches_on row within) (seed_room seq [] old (row.sp + 1) s (omega (arith, small))) r

pub cont_clash : (seq : Sequence) (row : CatchRow) (old : Depths) → IsInside seq → Contains seq.rows row → SoFar seq [] old → Clashes old.found row.cont (row.sp + 1) → ¬ HasOneDepth seq old.kind
cont_clash seq row old inside within s c = clash seq [] old row.cont (row.sp + 1) s (row_inside seq row inside within).2 (catches_on row within) c

pub row_from : (seq : Sequence) (row : CatchRow) (old mid new : Depths) → IsInside seq → Contains seq.rows row → row.sp < 2 ^ 64 → row.kind ≡ kinds.TheVariants.Rescue → IsReached seq [] old mid row.cont (row.sp + 1) → Reaches mid new row.from row.sp → FindsRow seq row old new
row_from seq row old mid new inside within small kind f r =
    let h = reached seq [] mid new row.from row.sp f.so_far (row_inside seq row inside within).0 (retries row within kind) (seed_room seq [] mid row.sp f.so_far (omega (arith, small))) r in
    record {
      so_far = h.so_far;
      grows = Grows-more old mid new f.grows h.grows;
      there = record { cont = h.grows.kept row.cont (row.sp + 1) f.there; from = λ _. h.there };
    }

pub from_clash : (seq : Sequence) (row : CatchRow) (old mid : Depths) → IsInside seq → Contains seq.rows row → row.kind ≡ kinds.TheVariants.Rescue → IsReached seq [] old mid row.cont (row.sp + 1) → Clashes mid.found row.from row.sp → ¬ HasOneDepth seq old.kind
from_clash seq row old mid inside within kind f c =
    subst (λ k. ¬ HasOneDepth seq k) f.grows.same (clash seq [] mid row.from row.sp f.so_far (row_inside seq row inside within).0 (retries row within kind) c)

pub row_no_from : (seq : Sequence) (row : CatchRow) (old new : Depths) → (row.kind ≡ kinds.TheVariants.Rescue → ⊥) → IsReached seq [] old new row.cont (row.sp + 1) → FindsRow seq row old new
row_no_from seq row old new other f = record {
  so_far = f.so_far;
  grows = f.grows;
  there = record { cont = f.there; from = λ kind. absurd (other kind) };
}

HasRow-grows : (old new : Depths) → Grows old new → (row : CatchRow) → HasRow old.found row → HasRow new.found row
HasRow-grows old new g row h = record {
  cont = g.kept row.cont (row.sp + 1) h.cont;
  from = λ kind. g.kept row.from row.sp (h.from kind);
}

pub finds_no_rows : (seq : Sequence) (rows : List CatchRow) (old : Depths) → SoFar seq [] old → FindsRows seq (take 0 rows) old old
finds_no_rows seq rows old s = record { so_far = s; grows = Grows-none old; there = All-nil (HasRow old.found) }

pub finds_row : (seq : Sequence) (rows : List CatchRow) (old mid new : Depths) (i : ℕ) (d : CatchRow) → i < length rows → FindsRows seq (take i rows) old mid → FindsRow seq (get_or rows i d) mid new → FindsRows seq (take (i + 1) rows) old new
finds_row seq rows old mid new i d l f h = record {
  so_far = h.so_far;
  grows = Grows-more old mid new f.grows h.grows;
  there = All-more (HasRow new.found) rows i d l (All-weaker (HasRow mid.found) (HasRow new.found) (HasRow-grows mid new h.grows) (take i rows) f.there) h.there;
}

-- where an instruction leads
LeadsOn-grows : (seq : Sequence) (place : ℕ) (line : Line) (after : ℕ) (old new : Depths) → LeadsOn seq place line after old → SoFar seq (place ∷ []) new → Grows old new → LeadsOn seq place line after new
LeadsOn-grows seq place line after old new on s g =
    let b = on.before in
    record {
      so_far = s;
      before = (b.0, g.kept place b.0 b.1, b.2, b.3);
      room = let l = g.less in omega (arith, l, on.room);
    }

next_way : (seq : Sequence) (place : ℕ) (line : Line) (after : ℕ) (old : Depths) → slice_get seq.code place ≡ Some line → LeadsOn seq place line after old → IsTrue (goes_on line.instr) → Way seq old.kind (place + 1) after
next_way seq place line after old at on goes =
    let b = on.before in
    subst (λ n. Way seq old.kind (place + 1) n) (sym b.3) (follows place b.0 line (on.so_far.ways place b.0 b.1) at goes)

target_way : (seq : Sequence) (place target : ℕ) (line : Line) (after : ℕ) (old : Depths) → slice_get seq.code place ≡ Some line → LeadsOn seq place line after old → target_of line.instr ≡ Some target → Way seq old.kind target after
target_way seq place target line after old at on is =
    let b = on.before in
    subst (λ n. Way seq old.kind target n) (sym b.3) (jumps place b.0 target line (on.so_far.ways place b.0 b.1) at is)

pub finds_no_following : (seq : Sequence) (place : ℕ) (line : Line) (after : ℕ) (old : Depths) → LeadsOn seq place line after old → (IsTrue (goes_on line.instr) → place + 1 < length seq.code → ⊥) → FindsFollowing seq place line after old old
finds_no_following seq place line after old on none = record {
  on = on;
  grows = Grows-none old;
  there = λ goes below. absurd (none goes below);
}

pub finds_following : (seq : Sequence) (place : ℕ) (line : Line) (after : ℕ) (old new : Depths) → slice_get seq.code place ≡ Some line → LeadsOn seq place line after old → IsTrue (goes_on line.instr) → place + 1 < length seq.code → Reaches old new (place + 1) after → FindsFollowing seq place line after old new
finds_following seq place line after old new at on goes below r =
    let h = reached seq (place ∷ []) old new (place + 1) after on.so_far below (next_way seq place line after old at on goes) on.room r in
    record {
      on = LeadsOn-grows seq place line after old new on h.so_far h.grows;
      grows = h.grows;
      there = λ _ _. h.there;
    }

pub following_clash : (seq : Sequence) (place : ℕ) (line : Line) (after : ℕ) (old : Depths) → slice_get seq.code place ≡ Some line → LeadsOn seq place line after old → IsTrue (goes_on line.instr) → place + 1 < length seq.code → Clashes old.found (place + 1) after → ¬ HasOneDepth seq old.kind
following_clash seq place line after old at on goes below c =
    clash seq (place ∷ []) old (place + 1) after on.so_far below (next_way seq place line after old at on goes) c

-- a place that leads to what is in the list need not be looked at again
pub finish : (seq : Sequence) (place : ℕ) (depths : Depths) → SoFar seq (place ∷ []) depths → ((depth : ℕ) (line : Line) → DepthAt depths.found place depth → slice_get seq.code place ≡ Some line → Leads seq depths.found place depth line) → SoFar seq [] depths
finish seq place depths s leads = record {
  long = s.long;
  fits = s.fits;
  small = s.small;
  ways = s.ways;
  within = s.within;
  followed = λ other depth line at is. ⊎_elim
      (λ waits. inl waits)
      (λ r. inr (inr (⊎_elim
      (λ at_rest. let e = only place other at_rest in subst (λ n. Leads seq depths.found n depth line) e (leads depth line (subst (λ n. DepthAt depths.found n depth) (sym e) at) (subst (λ n. slice_get seq.code n ≡ Some line) (sym e) is)))
      (λ led. led) r)))
      (s.followed other depth line at is);
}
  where
    only : (a b : ℕ) → Contains (a ∷ []) b → a ≡ b
    only a b c = let z : c.0 ≡ 0 = omega (arith, c.1) in sym (ap (λ k. get_or (a ∷ []) k b) z) ∙ c.2

leads_all : (seq : Sequence) (place : ℕ) (line : Line) (after : ℕ) (depths : Depths) → slice_get seq.code place ≡ Some line → LeadsOn seq place line after depths → HasFollowing seq place line after depths → ((target : ℕ) → target_of line.instr ≡ Some target → DepthAt depths.found target after) → (depth : ℕ) (other : Line) → DepthAt depths.found place depth → slice_get seq.code place ≡ Some other → Leads seq depths.found place depth other
leads_all seq place line after depths at on next jump depth other found is =
    let b = on.before in
    let same : depth ≡ b.0 = one_depth_at depths.found place depth b.0 found b.1 in
    let e : after ≡ depth_after line.instr depth = b.3 ∙ ap (depth_after line.instr) (sym same) in
    let one : Leads seq depths.found place depth line = record {
      enough = omega (arith, same, b.2);
      next = λ goes below. subst (λ n. DepthAt depths.found (place + 1) n) e (next goes below);
      jump = λ target t. subst (λ n. DepthAt depths.found target n) e (jump target t);
    } in
    subst (λ l. Leads seq depths.found place depth l) (same_Some line other (sym at ∙ is)) one

target_inside : (seq : Sequence) (place target : ℕ) (line : Line) → IsInside seq → slice_get seq.code place ≡ Some line → target_of line.instr ≡ Some target → target < length seq.code
target_inside seq place target line inside at is =
    let h = All-at (λ (l : Line). IfSome (target_of l.instr) (λ t. t < length seq.code)) seq.code place line inside.targets at in
    subst (λ (o : Option ℕ). IfSome o (λ t. t < length seq.code)) is h

pub finds_target : (seq : Sequence) (place target : ℕ) (line : Line) (after : ℕ) (old new : Depths) → IsInside seq → slice_get seq.code place ≡ Some line → LeadsOn seq place line after old → HasFollowing seq place line after old → target_of line.instr ≡ Some target → Reaches old new target after → FindsNext seq old new
finds_target seq place target line after old new inside at on next is r =
    let within = target_inside seq place target line inside at is in
    let h = reached seq (place ∷ []) old new target after on.so_far within (target_way seq place target line after old at on is) on.room r in
    let on' = LeadsOn-grows seq place line after old new on h.so_far h.grows in
    record {
      so_far = finish seq place new h.so_far (leads_all seq place line after new at on' (λ goes below. h.grows.kept (place + 1) after (next goes below)) (λ t e. subst (λ n. DepthAt new.found n after) (same_Some target t (sym is ∙ e)) h.there));
      grows = h.grows;
    }

pub target_clash : (seq : Sequence) (place target : ℕ) (line : Line) (after : ℕ) (old : Depths) → IsInside seq → slice_get seq.code place ≡ Some line → LeadsOn seq place line after old → target_of line.instr ≡ Some target → Clashes old.found target after → ¬ HasOneDepth seq old.kind
target_clash seq place target line after old inside at on is c =
    clash seq (place ∷ []) old target after on.so_far (target_inside seq place target line inside at is) (target_way seq place target line after old at on is) c

pub finds_no_target : (seq : Sequence) (place : ℕ) (line : Line) (after : ℕ) (old : Depths) → slice_get seq.code place ≡ Some line → LeadsOn seq place line after old → HasFollowing seq place line after old → target_of line.instr ≡ None → FindsNext seq old old
finds_no_target seq place line after old at on next is = record {
  so_far = finish seq place old on.so_far (leads_all seq place line after old at on next (λ t e. absurd (cc (e, is))));
  grows = Grows-none old;
}

pub finds_nothing : (seq : Sequence) (place : ℕ) (old : Depths) → SoFar seq (place ∷ []) old → slice_get old.found place ≡ Some None → FindsNext seq old old
finds_nothing seq place old s none = record {
  so_far = finish seq place old s (λ depth line at is. absurd (cc (at, none)));
  grows = Grows-none old;
}

-- the same, of a list that is known to be that of the sequence
pub finds_entry_of : (seq : Sequence) (items : List ℕ) (old mid new : Depths) (i d : ℕ) → items ≡ seq.entries → IsInside seq → i < length items → FindsEntries seq (take i items) old mid → Reaches mid new (get_or items i d) 0 → FindsEntries seq (take (i + 1) items) old new
finds_entry_of seq items old mid new i d e inside l f r =
    let Step : List ℕ → Type 0 = λ xs. i < length xs → FindsEntries seq (take i xs) old mid → Reaches mid new (get_or xs i d) 0 → FindsEntries seq (take (i + 1) xs) old new in
    subst Step (sym e) (λ m g s. finds_entry seq old mid new i d inside m g s) l f r

pub entry_clash_of : (seq : Sequence) (items : List ℕ) (old mid : Depths) (i d : ℕ) → items ≡ seq.entries → IsInside seq → i < length items → FindsEntries seq (take i items) old mid → Clashes mid.found (get_or items i d) 0 → ¬ HasOneDepth seq old.kind
entry_clash_of seq items old mid i d e inside l f c =
    let Step : List ℕ → Type 0 = λ xs. i < length xs → FindsEntries seq (take i xs) old mid → Clashes mid.found (get_or xs i d) 0 → ¬ HasOneDepth seq old.kind in
    subst Step (sym e) (λ m g s. entry_clash seq old mid i d inside m g s) l f c

-- a place whose instruction finds enough leads on, and one that finds too little is no sound body's
pub leads_on : (seq : Sequence) (place depth after takes leaves needs : ℕ) (line : Line) (old : Depths) → SoFar seq (place ∷ []) old → DepthAt old.found place depth → takes ≡ takes_of line.instr → leaves ≡ leaves_of line.instr → needs ≡ needs_of line.instr → needs ≤ depth → leaves < 2 ^ 64 → after ≡ depth - takes + leaves → LeadsOn seq place line after old
leads_on seq place depth after takes leaves needs line old s at t l n enough small e =
    let m = s.small place depth at in
    record {
      so_far = s;
      before = (depth, at, subst (λ k. k ≤ depth) n enough, e ∙ ap (λ k. depth - k + leaves) t ∙ ap (λ k. depth - takes_of line.instr + k) l);
      room = omega (arith, m, e, small);
    }

pub finds_too_little : (seq : Sequence) (place depth needs : ℕ) (line : Line) (old : Depths) → SoFar seq (place ∷ []) old → DepthAt old.found place depth → slice_get seq.code place ≡ Some line → needs ≡ needs_of line.instr → depth < needs → FindsEnough seq old.kind → ⊥
finds_too_little seq place depth needs line old s at is n less enough =
    let h = enough place depth line (s.ways place depth at) is in
    omega (arith, h, n, less)
