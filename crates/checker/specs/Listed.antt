-- Triangles, edges and points as the iterators over a job's lists hand them out. Assumes nothing: these are definitions.
use Rattle.std.specs.Prelude.{Bool, ◌&&◌, List, ℕ, eqb}
use Rattle.geometry.specs.Space.{V3, v3, of, points_in}
use Rattle.laws.specs.Laws as laws
use Rattle.laws.specs.inner.Listed.{triangles_in, kept_in, count_of}
use Rattle.checker.specs.declared.list.Triangle.{Triangle}
use Rattle.checker.specs.declared.list.Edge.{Edge}
use Rattle.checker.specs.declared.list.Triangles.{Triangles}
use Rattle.checker.specs.declared.list.Edges.{Edges}
use Rattle.checker.specs.declared.list.Point.{Point}
use Rattle.checker.specs.declared.list.Points.{Points}

abbrev pub tri_of : Triangle → laws.Tri
tri_of t = laws.tri t.a t.b t.c

abbrev pub edge_of : Edge → laws.Edge
edge_of e = record { a = e.a; b = e.b }

abbrev pub triangles_left : Triangles → List laws.Tri
triangles_left s = triangles_in s.0.now

abbrev pub edges_left : Edges → List laws.Edge
edges_left s = kept_in s.0.now

abbrev pub point_of : Point → V3
point_of p = v3 (of p.x) (of p.y) (of p.z)

abbrev pub points_left : Points → List V3
points_left s = points_in s.0.now

-- each edge of a triangle occurs as often as its reverse, by a table of counts
unfoldable pub tri_even : (counts : List ℕ) → laws.Tri → Bool
tri_even counts t =
    eqb (count_of counts t.a t.b) (count_of counts t.b t.a)
    && (eqb (count_of counts t.b t.c) (count_of counts t.c t.b) && eqb (count_of counts t.c t.a) (count_of counts t.a t.c))
