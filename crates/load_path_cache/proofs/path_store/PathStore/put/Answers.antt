use Rattle.std.proofs.Common.{◌∙◌, sym}
use Rattle.load_path_cache.proofs.Stores.{entry_of, short_of, room_of, stored, not_stored}
use Rattle.load_path_cache.proofs.path_store.PathStore.put.Goals as goal

pub returns-then-not-may_keep-clause-ok : goal.returns-then-not-may_keep-clause-ok
returns-then-not-may_keep-clause-ok c = not_stored c.args.self.now c.remove.new.self c.args.root.now c.args.scan.now c.args.stable (sym c.may_keep.ensures ∙ c.if-not-may_keep.true) c.remove.ensures

pub insert-requires : goal.insert-requires
insert-requires c = record {
  entry = entry_of c.args.root.now c.in_ok-path.path c.args.scan.now c.in_ok-item.item c.args.stable c.requires.root c.requires.scan c.in_ok-path.ensures c.in_ok-item.ensures;
  short = short_of c.args.self.now c.args.root.now c.args.scan.now c.in_ok-item.item c.args.stable c.requires.scan (sym c.may_keep.ensures ∙ c.if-not-may_keep.false) c.in_ok-item.ensures;
  few = room_of c.args.self.now c.args.root.now c.in_ok-path.path c.args.scan.now (sym c.may_keep.ensures ∙ c.if-not-may_keep.false) c.in_ok-path.ensures;
}

pub returns-clause-ok : goal.returns-clause-ok
returns-clause-ok c =
    stored c.args.self.now c.insert.new.self c.args.root.now c.in_ok-path.path c.args.scan.now c.in_ok-item.item c.args.stable (sym c.may_keep.ensures ∙ c.if-not-may_keep.false) c.in_ok-path.ensures c.in_ok-item.ensures c.in_ok-insert.ensures.ok
