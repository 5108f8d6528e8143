-- Types, paths, generic arguments, bounds, generic parameters and where clauses are read exactly where they stand.
use Rattle.std.proofs.Common.{◌≡◌, ℕ, Bool, List, drop, ap}
use Rattle.lay_node.specs.Ahead.{Tokens}
use Rattle.lay_node.specs.nodes.Facts.{Front}
use Rattle.lay_node.specs.nodes.Generics.{GenericsAt, GenericsFront}
use Rattle.lay_node.specs.nodes.Types.{TypeFront, BoundsFront, in_style, alone, about_type, about_path, about_args}
use Rattle.lay_node.specs.nodes.Where.{WheresAt, WheresFront}
use Rattle.lay_node.specs.reader.Exact.{Exact}
use Rattle.lay_node.specs.reader.Generics.{generics_at}
use Rattle.lay_node.specs.reader.Types.{type_at, path_at, args_at, bounds_at}
use Rattle.lay_node.specs.reader.Where.{wheres_at}
use Rattle.lay_node.specs.declared.generics.Generics.{Generics}
use Rattle.lay_node.specs.declared.generics.Wheres.{Wheres}
use Rattle.lay_node.specs.declared.types.Args.{Args}
use Rattle.lay_node.specs.declared.types.Bound.{Bound}
use Rattle.lay_node.specs.declared.types.Path.{Path}
use Rattle.lay_node.specs.declared.types.PathStyle.{PathStyle}
use Rattle.lay_node.specs.declared.types.Ty.{Ty}
use Rattle.lay_node.specs.declared.types.TypePlace.{TypePlace}
use Rattle.lay_node.proofs.reader.Exact.{exact, one_by_reading, one_at_most}
use Rattle.lay_node.proofs.reader.GenericsComplete.{generics_complete}
use Rattle.lay_node.proofs.reader.GenericsSound.{generics_stand}
use Rattle.lay_node.proofs.reader.TypesCompleteAlone.{path_complete, args_complete, bounds_complete}
use Rattle.lay_node.proofs.reader.TypesCompleteKinds.{type_complete}
use Rattle.lay_node.proofs.reader.TypesSound.{types_stand, path_alone_sound, args_alone_sound, bounds_stand}
use Rattle.lay_node.proofs.reader.WheresComplete.{wheres_complete}
use Rattle.lay_node.proofs.reader.WheresSound.{wheres_stand}

pub types_exact : (place : TypePlace) → Exact (type_at place) (λ (x : Ty). TypeFront place (about_type x))
types_exact place = record {
  sound = types_stand place;
  complete = λ x ts n depth f budget h. type_complete place x depth budget ts (drop n ts) h f.1 f.2 f.3;
}

pub paths_exact : (style : PathStyle) → Exact (path_at style) (λ (x : Path). Front (alone (about_path x style)))
paths_exact style = exact (λ (x : Path). alone (about_path x style)) (path_at style) (path_alone_sound style) (path_complete style)

pub args_exact : (style : PathStyle) → Exact (args_at style) (λ (x : Args). Front (alone (in_style style (about_args x))))
args_exact style = exact (λ (x : Args). alone (in_style style (about_args x))) (args_at style) (args_alone_sound style) (args_complete style)

pub bounds_exact : Exact bounds_at (λ (x : List Bound). BoundsFront x)
bounds_exact = record {
  sound = bounds_stand;
  complete = λ x ts n depth f budget h. bounds_complete x depth budget ts (drop n ts) h f.1 f.2 f.3;
}

pub generics_exact : Exact generics_at (λ (x : Generics × Bool). GenericsAt x.1 x.0)
generics_exact = record {
  sound = generics_stand;
  complete = λ x ts n depth f budget h. generics_complete x.1 x.0 depth budget ts (drop n ts) h f.1 f.2 f.3;
}

pub wheres_exact : Exact wheres_at (λ (x : Wheres × Bool). WheresAt x.1 x.0)
wheres_exact = record {
  sound = wheres_stand;
  complete = λ x ts n depth f budget h. wheres_complete x.1 x.0 depth budget ts (drop n ts) h f.1 f.2 f.3;
}

-- ---- so at most one node and one count of tokens fit

pub one_type : (place : TypePlace) (node other : Ty) (ts : Tokens) (n m depth : ℕ)
    → TypeFront place (about_type node) ts n depth → TypeFront place (about_type other) ts m depth → (node ≡ other) × (n ≡ m)
one_type place = one_by_reading (λ (x : Ty). TypeFront place (about_type x)) (type_at place) (λ x ts n depth f. f.0) (types_exact place)

pub one_path : (style : PathStyle) (node other : Path) (ts : Tokens) (n m depth : ℕ)
    → Front (alone (about_path node style)) ts n depth → Front (alone (about_path other style)) ts m depth → (node ≡ other) × (n ≡ m)
one_path style = one_at_most (λ (x : Path). alone (about_path x style)) (path_at style) (paths_exact style)

pub one_args : (style : PathStyle) (node other : Args) (ts : Tokens) (n m depth : ℕ)
    → Front (alone (in_style style (about_args node))) ts n depth → Front (alone (in_style style (about_args other))) ts m depth
    → (node ≡ other) × (n ≡ m)
one_args style = one_at_most (λ (x : Args). alone (in_style style (about_args x))) (args_at style) (args_exact style)

pub one_bounds : (nodes others : List Bound) (ts : Tokens) (n m depth : ℕ) → BoundsFront nodes ts n depth → BoundsFront others ts m depth
    → (nodes ≡ others) × (n ≡ m)
one_bounds = one_by_reading (λ (x : List Bound). BoundsFront x) bounds_at (λ x ts n depth f. f.0) bounds_exact

-- Whichever way the last part is spelled, the reading tells it with the node.
pub one_generics : (node other : Generics) (ts : Tokens) (n m depth : ℕ) → GenericsFront node ts n depth → GenericsFront other ts m depth
    → (node ≡ other) × (n ≡ m)
one_generics node other ts n m depth f g =
    let one = one_by_reading (λ (x : Generics × Bool). GenericsAt x.1 x.0) generics_at (λ x ts n depth f. f.0) generics_exact
    (node, f.0) (other, g.0) ts n m depth f.1 g.1 in
    (ap (λ (x : Generics × Bool). x.0) one.0, one.1)

pub one_wheres : (node other : Wheres) (ts : Tokens) (n m depth : ℕ) → WheresFront node ts n depth → WheresFront other ts m depth
    → (node ≡ other) × (n ≡ m)
one_wheres node other ts n m depth f g =
    let one = one_by_reading (λ (x : Wheres × Bool). WheresAt x.1 x.0) wheres_at (λ x ts n depth f. f.0) wheres_exact
    (node, f.0) (other, g.0) ts n m depth f.1 g.1 in
    (ap (λ (x : Wheres × Bool). x.0) one.0, one.1)
