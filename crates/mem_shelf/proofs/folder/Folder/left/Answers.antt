use Rattle.std.proofs.Common.{◌≡◌, ◌++◌, [], sym, ◌∙◌, ap, subst, List}
use Rattle.bs_outside.specs.Cache.{CacheItem}
use Rattle.mem_shelf.specs.Keeping.{Keeping, NamesOnce, latest}
use Rattle.mem_shelf.proofs.Latest.{latest_of_both, left_stands, latest_once}
use Rattle.mem_shelf.proofs.folder.Folder.left.Goals as goal

all : (c : goal.In_ok-put_latest-2) → c.put_latest-2.new.files.items ≡ latest (c.args.self.now.start ++ c.args.self.now.past) []
all c =
    let start : c.deref.result.now ≡ c.args.self.now.start = c.deref.ensures.value ∙ ap (λ (k : Keeping). k.start) c.self.view_is in
    let past : c.deref-2.result.now ≡ c.args.self.now.past = c.deref-2.ensures.value ∙ ap (λ (k : Keeping). k.past) c.self.view_is in
    let again : c.deref-3.result.now ≡ c.args.self.now.past = c.deref-3.ensures.value ∙ ap (λ (k : Keeping). k.past) c.self.view_is in
    let first : c.put_latest.new.files.items ≡ [] ++ latest c.deref.result.now c.deref-2.result.now = c.in_ok-put_latest.ensures ∙ ap (λ (l : List CacheItem). l ++ latest c.deref.result.now c.deref-2.result.now) c.new-files.ensures.items in
    latest_of_both c.args.self.now _ _ _ _ _ start past again first c.in_ok-put_latest-2.ensures

pub returns-clause-stands : goal.returns-clause-stands
returns-clause-stands c = λ name. left_stands c.args.self.now _ name (all c)

pub returns-clause-once : goal.returns-clause-once
returns-clause-once c = subst NamesOnce (sym (all c)) (latest_once (c.args.self.now.start ++ c.args.self.now.past))
