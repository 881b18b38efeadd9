use Rattle.std.proofs.Common.{List, [], sym, subst, refl}
use Rattle.std.proofs.lemmas.List.{append-nil}
use Rattle.std.proofs.lemmas.List.Elements.{All-nil}
use Rattle.lvl_grid.proofs.Anyone.{Any-nil}
use Rattle.lvl_grid.specs.Winding.{SomeCovers}
use Rattle.lvl_grid.specs.declared.point.Point.{Point}
use Rattle.lvl_corners.specs.Corners.{FitsCorner}
use Rattle.lvl_corners.specs.Digests.{HasHashed}
use Rattle.lvl_corners.proofs.Spans.{no_corners_in}
use Rattle.lvl_corners.proofs.digest.LayerHash.push.Goals as goal

pub returns-then-is_empty-clause-hashed : goal.returns-then-is_empty-clause-hashed
returns-then-is_empty-clause-hashed c = (
  [],
  no_corners_in (SomeCovers c.args.rings.now) c.args.span
      (λ s p. Any-nil _ (subst (λ (rings : List (List Point)). SomeCovers rings s) (c.if-is_empty.ensures.0 refl) p)),
  All-nil FitsCorner,
  λ before held. subst (HasHashed c.args.self.now) (sym (append-nil before)) held,
)

pub returns-clause-hashed : goal.returns-clause-hashed
returns-clause-hashed c =
    let sent = c.in_ok-send_corners_in.ensures.sent in (
      sent.0,
      sent.3,
      sent.2,
      c.put.ensures.taken c.in_ok-hashing.hashing sent.0 c.in_ok-hashing.ensures sent.1,
    )
