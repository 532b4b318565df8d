pub mod SyntaxErrors
