-- How far code reaches.
use Rattle.std.proofs.Common.{◌≡◌, ℕ, ◌+◌, arith}
use Rattle.code_meaning.specs.Code.{Shape, done, op, ahead, behind, deep, part, held, size, finish}

pub finish_size : (s : Shape) (p : ℕ) → finish p s ≡ p + size s
finish_size done p = omega arith
finish_size (op l i s) p = let e = finish_size s (p + 1) in omega arith
finish_size (ahead l j n s) p = let e = finish_size s (p + 1) in omega arith
finish_size (behind l j n s) p = let e = finish_size s (p + 1) in omega arith
finish_size (deep l j s) p = let e = finish_size s (p + 1) in omega arith
finish_size (part d a s) p = let e = finish_size a p in let f = finish_size s (finish p a) in omega arith
finish_size (held k far q a s) p = let e = finish_size a p in let f = finish_size s (finish p a) in omega arith
