use Rattle.std.proofs.Common.{arith}
use Rattle.lay_depth.proofs.nodes_lemmas.HeadLemmas as of
use Rattle.lay_depth.proofs.nodes.functions.ParamDeep.depth.Goals as goal

pub returns-in-OwnSelf : goal.returns-in-OwnSelf
returns-in-OwnSelf c =
    let x = c.in-OwnSelf in
    let m = of.own_self_is c.args.self.now x.mutable x.ty x.is in omega (arith, m, c.type_or_none_depth.ensures)

pub returns-in-Typed : goal.returns-in-Typed
returns-in-Typed c =
    let x = c.in-Typed in
    let m = of.typed_is c.args.self.now x.pat x.ty x.is in omega (arith, m, c.pat_depth.ensures, c.type_depth.ensures, c.max.ensures)

pub returns-in-NamedVariadic : goal.returns-in-NamedVariadic
returns-in-NamedVariadic c =
    let m = of.named_variadic_is c.args.self.now c.in-NamedVariadic.pat c.in-NamedVariadic.is in
    omega (arith, m, c.pat_depth-in-NamedVariadic.ensures)

pub returns-in-RefSelf : goal.returns-in-RefSelf
returns-in-RefSelf c = of.leaf_param_is c.args.self.now c.in-RefSelf.is

pub returns-in-RefSelf-2 : goal.returns-in-RefSelf-2
returns-in-RefSelf-2 c = of.leaf_param_is c.args.self.now c.in-RefSelf.is
