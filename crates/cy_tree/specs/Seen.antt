-- The node that a reference shows.
use Rattle.cy_tree.specs.declared.node.Node.{Node}
use Rattle.cy_tree.specs.declared.node.Node.TheVariants as node
use Rattle.cy_tree.specs.Nodes.{Tree, FileNode, TopNode, PxdItemNode, ClassNode, PxdClassNode, MemberNode, PxdMemberNode, CFunctionNode, HeadingNode, HeaderNode, DefNode, VariablesNode, ParamNode, DeclaredNode, SuiteNode, LineNode, StmtNode, ArmNode, HandlerNode, SimpleNode, ExprNode, PartNode, IndexNode}

abbrev pub seen : Node → Tree
seen (node.File r) = FileNode r.now
seen (node.Top r) = TopNode r.now
seen (node.PxdItem r) = PxdItemNode r.now
seen (node.Class r) = ClassNode r.now
seen (node.PxdClass r) = PxdClassNode r.now
seen (node.Member r) = MemberNode r.now
seen (node.PxdMember r) = PxdMemberNode r.now
seen (node.CFunction r) = CFunctionNode r.now
seen (node.Heading r) = HeadingNode r.now
seen (node.Header r) = HeaderNode r.now
seen (node.Def r) = DefNode r.now
seen (node.Variables r) = VariablesNode r.now
seen (node.Param r) = ParamNode r.now
seen (node.Declared r) = DeclaredNode r.now
seen (node.Suite r) = SuiteNode r.now
seen (node.Line r) = LineNode r.now
seen (node.Stmt r) = StmtNode r.now
seen (node.Arm r) = ArmNode r.now
seen (node.Handler r) = HandlerNode r.now
seen (node.Simple r) = SimpleNode r.now
seen (node.Expr r) = ExprNode r.now
seen (node.Part r) = PartNode r.now
seen (node.Index r) = IndexNode r.now
