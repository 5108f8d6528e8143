mod Nesting
