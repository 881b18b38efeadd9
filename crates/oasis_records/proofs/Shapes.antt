-- The spelling of each figure is prefix-free, and there are bytes that spell it.
use Rattle.std.proofs.Common.{ℕ, Bool, true, false, Ok}
use Rattle.oasis_values.proofs.Codes.{gives_code, then_code, seen_code, IsCode}
use Rattle.oasis_values.proofs.Integers.{byte_code, unsigned_code}
use Rattle.oasis_values.proofs.Lists.{point_list_code}
use Rattle.oasis_values.proofs.Values.{signed_code}
use Rattle.oasis_values.specs.declared.point_list.Use.TheVariants.{Polygon as ForPolygon, Path as ForPath}
use Rattle.oasis_records.specs.Fields.{has, IsInfo}
use Rattle.oasis_records.specs.Rectangles.{rectangle, IsRectangleOf, IsRectangle}
use Rattle.oasis_records.specs.Polygons.{polygon, IsPolygonOf, IsPolygon}
use Rattle.oasis_records.specs.Paths.{IsExtension, ends, AreEndsOf, some_ends, AreEnds, AreEndsIf, IsStrokeOf, path}
use Rattle.oasis_records.specs.Paths.{IsPathOf, IsPath}
use Rattle.oasis_records.specs.declared.path.Extension.TheVariants.{Explicit}
use Rattle.oasis_records.specs.declared.path.Kind.{Kind}
use Rattle.oasis_records.specs.declared.path.Kind.TheVariants.{Modal as OfModal, Flush as OfFlush}
use Rattle.oasis_records.specs.declared.path.Kind.TheVariants.{HalfWidth as OfHalfWidth, Explicit as OfExplicit}
use Rattle.oasis_records.specs.declared.path.Stroke.{Stroke}
use Rattle.oasis_records.proofs.Codes.{if_code, on_layer_code, position_code}
use Rattle.oasis_records.proofs.Ruling.{and_then_code}

pub info_code : (limit : ℕ) → IsCode (IsInfo limit)
info_code limit = then_code byte_code (λ i. gives_code)

pub rectangle_of_code : (i : ℕ) → IsCode (IsRectangleOf i)
rectangle_of_code i =
    then_code (on_layer_code i) (λ on.
    then_code (if_code (has i 0x40) unsigned_code) (λ w.
    then_code (if_code (has i 0x20) unsigned_code) (λ h. seen_code (rectangle (has i 0x80) on w h) (position_code i))))

pub rectangle_code : IsCode IsRectangle
rectangle_code = and_then_code (then_code byte_code (λ i. gives_code)) (λ i. seen_code Ok (rectangle_of_code i))

pub polygon_of_code : (i : ℕ) → IsCode (IsPolygonOf i)
polygon_of_code i =
    then_code (on_layer_code i) (λ on.
    then_code (if_code (has i 0x20) (point_list_code ForPolygon)) (λ ps. seen_code (polygon on ps) (position_code i)))

pub polygon_code : IsCode IsPolygon
polygon_code = and_then_code (info_code 0x40) (λ i. seen_code Ok (polygon_of_code i))

pub extension_code : (k : Kind) → IsCode (IsExtension k)
extension_code OfModal = gives_code
extension_code OfFlush = gives_code
extension_code OfHalfWidth = gives_code
extension_code OfExplicit = seen_code Explicit signed_code

pub ends_of_code : (s : ℕ) → IsCode (AreEndsOf s)
ends_of_code s = then_code (extension_code _) (λ e. seen_code (ends e) (extension_code _))

pub ends_code : IsCode AreEnds
ends_code = and_then_code (info_code 0x10) (λ s. seen_code some_ends (ends_of_code s))

pub ends_if_code : (b : Bool) → IsCode (AreEndsIf b)
ends_if_code true = ends_code
ends_if_code false = gives_code

pub stroke_of_code : (i : ℕ) → IsCode (IsStrokeOf i)
stroke_of_code i =
    then_code (on_layer_code i) (λ on.
    then_code (if_code (has i 0x40) unsigned_code) (λ w. and_then_code (ends_if_code (has i 0x80)) (λ e. gives_code)))

pub path_of_code : (s : Stroke) → IsCode (IsPathOf s)
path_of_code s =
    then_code (if_code (has s.info 0x20) (point_list_code ForPath)) (λ ps. seen_code (path s ps) (position_code s.info))

pub path_code : IsCode IsPath
path_code = and_then_code (then_code byte_code stroke_of_code) (λ s. seen_code Ok (path_of_code s))
