-- The reader takes what is derived: operands by themselves.
use Rattle.std.proofs.Common.{neg_ℤ, ◌≡◌, ℕ, suc, ℤ, true, false, List, [], codes, Some, refl, ap, ◌∙◌, arith}
use Rattle.ruby_lexer.specs.Bytes.{Bytes}
use Rattle.ruby_lexer.specs.Pieces.{Toks, Kind}
use Rattle.ruby_lexer.specs.Pieces as token
use Rattle.ruby_tree.specs.Tree.{Tree, at, Trees, Pairs, Other, integer, array, hash, send, yield, super, bare_super, no_more, without, with}
use Rattle.ruby_tree.specs.Rules.{Scope, DoBlockOwner, own, position, next, front, word, is_mark, is_word, opens, opens_block, begins_arguments, is_command, is_negative}
use Rattle.ruby_tree.specs.Build.{Given, nothing, has_block}
use Rattle.ruby_tree.specs.Grammar.{Rels, Trailing, Elements, PairList, InBrackets, CallBlock, Literal, Block, DoBlock}
use Rattle.ruby_tree.specs.Grammar as g
use Rattle.ruby_tree.specs.FaultLine.{count_of}
use Rattle.reference_parser.specs.Answers.{taken, ◌>>=◌}
use Rattle.reference_parser.specs.ReadItems.{Readers}
use Rattle.reference_parser.specs.ReadOperands.{called_name, read_name, read_constant, read_yield, read_super, read_form, read_word, read_list, read_hash, negative_by, read_mark, literal_by, primary_by, read_primary, block_form_at}
use Rattle.reference_laws.proofs.Promises.{Knows, Known, Shorters, Firsts}
use Rattle.reference_parser.proofs.Tests.{both_true, and_true, left_true, right_true, next_le, word_kind, word_text, mark_kind, other_mark}
use Rattle.reference_laws.proofs.Begins.{element_not_mark, pair_not_mark}
use Rattle.reference_laws.proofs.First.{first_elements, first_pair_list}
use Rattle.reference_laws.proofs.KnownItems.{no_more_elements, no_more_pairs, known_closed, known_elements, known_pair_list, known_in_brackets}
use Rattle.reference_laws.proofs.KnownBodies.{known_block, known_call_block, known_text_parts}

module _ (source : Bytes) (R : Rels) (Q : Readers) (F : Firsts source R) (S : Shorters R) (K : Known R Q) where
  -- what the kind of the first token decides
  pub by_kind : (d : DoBlockOwner) (w : Toks) (s : Scope) (k : Kind) → front w ≡ Some k → read_primary source Q d w s ≡ primary_by source Q d w s (Some k)
  unfolding read_primary
  by_kind d w s k e = ap (primary_by source Q d w s) e

  pub by_word : (f : Bytes) (d : DoBlockOwner) (w : Toks) (s : Scope) → is_word source f w ≡ true → read_primary source Q d w s ≡ read_word source Q d w s
  unfolding primary_by
  by_word f d w s h = by_kind d w s token.keyword (word_kind source f w h)

  pub by_mark : (f : Bytes) (d : DoBlockOwner) (w : Toks) (s : Scope) → is_mark source f w ≡ true → read_primary source Q d w s ≡ read_mark source Q d w s
  unfolding primary_by
  by_mark f d w s h = by_kind d w s token.mark (mark_kind source f w h)

  known_negative : (d : DoBlockOwner) (w : Toks) (s : Scope) (n : ℤ) → is_negative source w ≡ true → front (next w) ≡ Some (token.integer n) → read_primary source Q d w s ≡ taken (at (position w) (integer (neg_ℤ n))) (next (next w)) s
  unfolding read_mark negative_by
  known_negative d w s n e h =
      let m = (both_true _ _ (both_true _ _ (both_true _ _ e).0).0).0 in
      by_mark (codes "-") d w s m
      ∙ rw (other_mark source (codes "-") (codes "[") w m refl, other_mark source (codes "-") (codes "{") w m refl, other_mark source (codes "-") (codes "(") w m refl, other_mark source (codes "-") (codes "::") w m refl, e, h)

  pub known_literal : (d : DoBlockOwner) → Knows (Literal source R) (read_primary source Q d)
  unfolding ◌>>=◌ primary_by read_word literal_by
  known_literal d w s t r z (g.Literal.nil_word e) = by_word (codes "nil") d w s e ∙ rw e
  known_literal d w s t r z (g.Literal.true_word e) = by_word (codes "true") d w s e ∙ rw (word_kind source (codes "true") w e, word_text source (codes "true") w e)
  known_literal d w s t r z (g.Literal.false_word e) = by_word (codes "false") d w s e ∙ rw (word_kind source (codes "false") w e, word_text source (codes "false") w e)
  known_literal d w s t r z (g.Literal.file_word e) = by_word (codes "__FILE__") d w s e ∙ rw (word_kind source (codes "__FILE__") w e, word_text source (codes "__FILE__") w e)
  known_literal d w s t r z (g.Literal.folder_word e) = by_word (codes "__dir__") d w s e ∙ rw (word_kind source (codes "__dir__") w e, word_text source (codes "__dir__") w e)
  known_literal d w s t r z (g.Literal.line_word e) = by_word (codes "__LINE__") d w s e ∙ rw (word_kind source (codes "__LINE__") w e, word_text source (codes "__LINE__") w e)
  known_literal d w s t r z (g.Literal.number e) = by_kind d w s _ e
  known_literal d w s t r z (g.Literal.negative_number {n = n} e h) = known_negative d w s n e h
  known_literal d w s t r z (g.Literal.plain_text {ps = ps} e h) = by_kind d w s _ e ∙ rw h
  known_literal d w s t r z (g.Literal.text_with_code e h i) = by_kind d w s _ e ∙ rw (h, known_text_parts source R Q F S K _ _ _ _ i)
  known_literal d w s t r z (g.Literal.symbol_name e) = by_kind d w s _ e
  known_literal d w s t r z (g.Literal.word_list e) = by_kind d w s _ e
  known_literal d w s t r z (g.Literal.symbol_list e) = by_kind d w s _ e

  pub list_read : (d : DoBlockOwner) (w : Toks) (s : Scope) → is_mark source (codes "[") w ≡ true → read_primary source Q d w s ≡ read_list source Q w s
  unfolding read_mark
  list_read d w s e = by_mark (codes "[") d w s e ∙ rw e

  pub known_list : (d : DoBlockOwner) (w q r : Toks) (s z : Scope) (ts : Trees) (ks : List ℕ) → is_mark source (codes "[") w ≡ true → Elements source R own 0 (next w) s ts ks q z → Trailing source q r → is_mark source (codes "]") r ≡ true → read_primary source Q d w s ≡ taken (at (position w) (array ts ks)) (next r) z
  unfolding ◌>>=◌ read_list
  known_list d w q r s z ts ks e h f c =
      list_read d w s e
      ∙ rw (element_not_mark source (codes "]") (next w) (first_elements source R F own _ _ _ _ _ _ _ h) refl refl, known_elements source R Q F S K (suc (count_of w)) 0 _ _ _ _ _ _ h (no_more_elements source (codes "]") q r f c refl) (omega (arith, next_le w)))
      (known_closed source (codes "]") (at (position w) (array ts ks)) q r z f c refl)

  pub hash_read : (d : DoBlockOwner) (w : Toks) (s : Scope) → is_mark source (codes "{") w ≡ true → read_primary source Q d w s ≡ read_hash source Q w s
  unfolding read_mark
  hash_read d w s e = by_mark (codes "{") d w s e ∙ rw (other_mark source (codes "{") (codes "[") w e refl, e)

  pub known_hash : (d : DoBlockOwner) (w q r : Toks) (s z : Scope) (ps : Pairs) → is_mark source (codes "{") w ≡ true → PairList source R own (next w) s ps q z → Trailing source q r → is_mark source (codes "}") r ≡ true → read_primary source Q d w s ≡ taken (at (position w) (hash ps)) (next r) z
  unfolding ◌>>=◌ read_hash
  known_hash d w q r s z ps e h f c =
      hash_read d w s e
      ∙ rw (pair_not_mark source (codes "}") (next w) (first_pair_list source R F own _ _ _ _ _ h) refl, known_pair_list source R Q F S K (suc (count_of w)) own _ _ _ _ _ h (no_more_pairs source (codes "}") q r f c refl) (omega (arith, next_le w)))
      (known_closed source (codes "}") (at (position w) (hash ps)) q r z f c refl)

  block_opens : (d : DoBlockOwner) (w : Toks) (s : Scope) (b : Tree) (r : Toks) (z : Scope) → Block source R d w s b r z → opens_block source d w ≡ true
  block_opens d w s b r z (g.Block.braces e p h c) = left_true _ _ e
  block_opens d w s b r z (g.Block.with_do i (g.DoBlock.block e p h c)) = right_true _ _ (and_true _ _ i e)

  pub known_name : (d : DoBlockOwner) (w : Toks) (s : Scope) (b : Tree) (r : Toks) (z : Scope) → opens source (next w) ≡ false → is_command source s (word source w) (next w) ≡ false → Block source R d (next w) s b r z →
      read_name source Q d w s ≡ taken (at (position w) (send without no_more [] without (word source w) false (with b))) r z
  unfolding ◌>>=◌ read_name
  known_name d w s b r z o i h = rw (o, i, block_opens d _ _ _ _ _ h, known_block source R Q F S K d _ _ _ _ _ h)

  pub known_called : (d : DoBlockOwner) (w q : Toks) (s y : Scope) (i : Given) (b : Other) (r : Toks) (z : Scope) → InBrackets source R (next w) s i q y → CallBlock source R d i q y b r z →
      called_name source Q d w s ≡ taken (at (position w) (send without i.trees i.spread i.value (word source w) false b)) r z
  unfolding ◌>>=◌ called_name
  known_called d w q s y i b r z h k = rw (known_in_brackets source R Q F S K _ _ _ _ _ h, known_call_block source R Q F S K d _ _ _ _ _ _ k)

  pub name_called : (d : DoBlockOwner) (w : Toks) (s : Scope) → front w ≡ Some token.name → opens source (next w) ≡ true → read_primary source Q d w s ≡ called_name source Q d w s
  unfolding primary_by read_name
  name_called d w s e o = by_kind d w s token.name e ∙ rw o

  pub constant_called : (d : DoBlockOwner) (w : Toks) (s : Scope) → front w ≡ Some token.constant → opens source (next w) ≡ true → read_primary source Q d w s ≡ called_name source Q d w s
  unfolding primary_by read_constant
  constant_called d w s e o = by_kind d w s token.constant e ∙ rw o

  -- words with what stands in their brackets
  pub yield_read : (d : DoBlockOwner) (w : Toks) (s : Scope) → is_word source (codes "yield") w ≡ true → read_primary source Q d w s ≡ read_yield source Q w s
  unfolding read_word read_form block_form_at
  yield_read d w s e = by_word (codes "yield") d w s e ∙ rw (word_kind source (codes "yield") w e, word_text source (codes "yield") w e)

  pub known_yield : (w : Toks) (s : Scope) (i : Given) (r : Toks) (z : Scope) → opens source (next w) ≡ true → InBrackets source R (next w) s i r z → has_block i ≡ false → read_yield source Q w s ≡ taken (at (position w) (yield i.trees i.spread)) r z
  unfolding ◌>>=◌ read_yield
  known_yield w s i r z o h b = rw (o, known_in_brackets source R Q F S K _ _ _ _ _ h, b)

  pub super_read : (d : DoBlockOwner) (w : Toks) (s : Scope) → is_word source (codes "super") w ≡ true → read_primary source Q d w s ≡ read_super source Q d w s
  unfolding read_word read_form block_form_at
  super_read d w s e = by_word (codes "super") d w s e ∙ rw (word_kind source (codes "super") w e, word_text source (codes "super") w e)

  pub known_super : (d : DoBlockOwner) (w q : Toks) (s y : Scope) (i : Given) (b : Other) (r : Toks) (z : Scope) → opens source (next w) ≡ true → InBrackets source R (next w) s i q y → CallBlock source R d i q y b r z → read_super source Q d w s ≡ taken (at (position w) (super i.trees i.spread i.value b)) r z
  unfolding ◌>>=◌ read_super
  known_super d w q s y i b r z o h k = rw (o, known_in_brackets source R Q F S K _ _ _ _ _ h, known_call_block source R Q F S K d _ _ _ _ _ _ k)

  pub known_super_alone : (d : DoBlockOwner) (w : Toks) (s : Scope) (b : Other) (r : Toks) (z : Scope) → opens source (next w) ≡ false → begins_arguments source (next w) ≡ false → CallBlock source R d nothing (next w) s b r z → read_super source Q d w s ≡ taken (at (position w) (bare_super b)) r z
  unfolding ◌>>=◌ read_super
  known_super_alone d w s b r z o i h = rw (o, i, known_call_block source R Q F S K d nothing _ _ _ _ _ h)
